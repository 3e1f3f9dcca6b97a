use Rattle.std.proofs.Common.{◌≡◌, List, ℕ, false, chars, None, not, ◌||◌, refl, ap, sym, ◌∙◌}
use Rattle.std.specs.List.{list_all, list_any}
use Rattle.std.proofs.lemmas.Bool.{cond-true}
use Rattle.idna.specs.BidiRule.{passes_bidi_rule}
use Rattle.idna.specs.Labels.{labels_of}
use Rattle.idn_class.specs.declared.properties.Properties.{Properties}
use Rattle.idn_class.specs.declared.properties.Properties.TheVariants.{Profile, Unicode}
use Rattle.idn_label.specs.Decode.{name_fault}
use Rattle.idn_label.proofs.BidiNames.{passes_bidi-tested, right}
use Rattle.idn_label.proofs.bidi_name.utf8_name_fault.Goals as goal

-- a name without R, AL and AN has no fault as a whole
faultless : (properties : Properties) (name : List ℕ) → list_any right name ≡ false → name_fault properties (labels_of name) ≡ None
faultless Profile name none = refl
faultless Unicode name none = cond-true _ _ _ (sym (passes_bidi-tested name) ∙ ap (λ b. not b || list_all passes_bidi_rule (labels_of name)) none)

pub returns-in-Unicode : goal.returns-in-Unicode
returns-in-Unicode c = sym (faultless c.args.properties (chars c.args.name.now) (c.requires.left_to_right (sym c.tell_left_to_right.ensures ∙ c.if-tell_left_to_right.true)))
