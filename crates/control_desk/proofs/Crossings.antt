-- What desks share may be read by several threads at once.
use denote.RattleType.{RattleType}
use denote.Param.Send.{IsSend, IsSync, view_send, sendable}
use denote.Param.SendFields.{declared_send, declared_sync}
use Rattle.std.proofs.Crossing.{crosses}
use Rattle.snap_share.specs.declared.history.ShareName as ShareName
use Rattle.snap_share.proofs.Crossings.{Told-send}
use Rattle.control_desk.specs.contracts.post.DeskPost as DeskPost
use Rattle.control_desk.specs.contracts.sources.PublishedSources as PublishedSources
use Rattle.control_desk.specs.contracts.sources.SourceText as SourceText
use Rattle.control_desk.specs.contracts.sources.SourceText.TheInside as SourceTextInside

pub DeskPost-sync : IsSync DeskPost.the_row
DeskPost-sync = declared_sync DeskPost.the_type (search (sendable, crosses) depth 80, (search (sendable, crosses) depth 80, tt))

module _ (T : RattleType) (g : ShareName.Ghosts T.Denot) (send : IsSend T) (sync : IsSync T) where
  SourceText-send : IsSend (SourceText.the_row T g)
  SourceText-send =
      view_send _ _ _ _ _
      (declared_send (SourceTextInside.the_type T g) (Told-send T g send sync, (search (sendable, crosses) depth 40, (search (sendable, crosses) depth 40, tt))))

  pub PublishedSources-sync : IsSync (PublishedSources.the_row T g)
  PublishedSources-sync = declared_sync (PublishedSources.the_type T g) (search (sendable, crosses, SourceText-send) depth 80, tt)
