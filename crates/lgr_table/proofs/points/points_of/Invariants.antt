use Rattle.std.proofs.Common.{◌≡◌, map, take}
use Rattle.lgr_text.specs.Records.{entry}
use Rattle.lgr_table.specs.Tables.{may_stand}
use Rattle.lgr_table.proofs.PointLemmas.{all_spans}
use Rattle.lgr_table.proofs.points.points_of.Given as goal

-- the spans so far
abbrev pub invariant-loop-entry : goal.invariant-loop-entry
invariant-loop-entry l = l.spans.items ≡ all_spans (may_stand l.properties) (map entry (take l.entry-index l.entries))
