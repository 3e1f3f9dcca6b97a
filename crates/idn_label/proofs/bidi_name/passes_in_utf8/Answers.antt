use Rattle.std.proofs.Common.{◌≡◌, ◌||◌, Bool, true, false, not, chars, refl, sym, ap, ◌∙◌}
use Rattle.idn_label.proofs.BidiNames.{passes_bidi-tested}
use Rattle.idn_label.proofs.bidi_name.passes_in_utf8.Goals as goal

by_none : (holds each : Bool) → each ≡ false → not holds ≡ (not holds || each)
by_none true each none = sym none
by_none false each none = refl

pub returns-else-each_utf8_label_passes : goal.returns-else-each_utf8_label_passes
returns-else-each_utf8_label_passes c =
    ap not c.holds_rtl_in_utf8.ensures ∙ by_none _ _ (sym c.each_utf8_label_passes.ensures ∙ c.if-each_utf8_label_passes.false)
    ∙ passes_bidi-tested (chars c.args.name.now)
