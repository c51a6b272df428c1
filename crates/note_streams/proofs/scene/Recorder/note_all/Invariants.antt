use Rattle.std.proofs.Common.{◌≡◌, ◌++◌, ◌||◌, drop, map, flat_map, nat_lt}
use Rattle.std.specs.List.{list_any}
use Rattle.logic_eval.specs.Views.{reach_view}
use Rattle.note_streams.specs.Record.{is_long, note_of}
use Rattle.note_streams.specs.Scene.{scene_of}
use Rattle.note_streams.proofs.scene.Recorder.note_all.Given as goal

abbrev pub invariant-loop-reach : goal.invariant-loop-reach
invariant-loop-reach l = record {
  text : l.text.items ++ flat_map (note_of (scene_of l.self)) (map reach_view (drop l.reach-index l.reached)) ≡ l.fn.text.items ++ flat_map (note_of (scene_of l.self)) (map reach_view l.reached);
  long : (nat_lt 0 l.long || list_any is_long (map reach_view (drop l.reach-index l.reached))) ≡ list_any is_long (map reach_view l.reached);
}
