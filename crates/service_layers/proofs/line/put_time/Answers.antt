use Rattle.std.proofs.Common.{codes}
use Rattle.std.proofs.lemmas.Result.{on_ok_weaker}
use Rattle.httpdate.specs.Date.{date_text}
use Rattle.service_layers.specs.Line.{moment_text, three_digits}
use Rattle.service_layers.proofs.Parts.{five}
use Rattle.service_layers.proofs.line.put_time.Goals as goal

-- the five, one after the other
pub returns : goal.returns
returns c =
    on_ok_weaker c.put_slice-3.result
    (five c.args.line.now.items c.put_slice.new.self.items c.put_date.new.line.items c.put_slice-2.new.self.items c.put_millis.new.line.items c.put_slice-3.new.self.items
    (codes "{\"time\":\"") (moment_text (date_text c.args.date)) (codes ".") (three_digits c.args.millis) (codes "Z\"")
    c.in_ok-put_slice.ensures.ok c.in_ok-put_date.ensures c.in_ok-put_slice-2.ensures.ok c.in_ok-put_millis.ensures)
    c.put_slice-3.ensures.ok
