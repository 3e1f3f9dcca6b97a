use Rattle.std.proofs.Common.{◌≡◌, map, take}
use Rattle.std.specs.List.{list_any}
use Rattle.ruleset_text.specs.Names.{is_one_of}
use Rattle.lgr_text.specs.Known.{tagged}
use Rattle.lgr_text.specs.Records.{entry}
use Rattle.lgr_text.proofs.class_sets.tagged.Given as goal

-- the spans so far, and whether an entry had the tag
abbrev pub invariant-loop-entry : goal.invariant-loop-entry
invariant-loop-entry l =
    (l.spans.items ≡ tagged (map entry (take l.entry-index l.entries)) l.tag)
    × (l.is_defined ≡ list_any (λ e. is_one_of e.tags l.tag) (map entry (take l.entry-index l.entries)))
