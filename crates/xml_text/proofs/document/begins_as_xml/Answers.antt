use Rattle.std.proofs.Common.{◌∙◌, ℕ, List, ap, drop, not, refl, rules, tests}
use Rattle.std.specs.Prelude.{find}
use Rattle.std.proofs.lemmas.Iterator.{YieldsList-from_slice}
use Rattle.std.proofs.lemmas.Iterator.Search.{find_from_yields_List}
use Rattle.xml_text.specs.Files.{is_less_than}
use Rattle.xml_text.specs.Names.{is_blank}
use Rattle.xml_text.proofs.document.begins_as_xml.Goals as goal

pub returns : goal.returns
returns c =
    let found = find_from_yields_List (λ b. not (is_blank b)) _ _ c.find.result c.find.ensures.ran
    (YieldsList-from_slice c.iter.result.rest.now refl) (λ x b q k. search (rules, tests)) in
    c.is_less_than.ensures ∙ ap is_less_than (c.copied.ensures ∙ found)
    ∙ ap (λ (bytes : List ℕ). is_less_than (find (λ b. not (is_blank b)) bytes))
    (c.iter.ensures.rest ∙ (c.split_at.ensures.back ∙ ap (λ (n : ℕ). drop n c.args.text.now) c.mark_length.ensures.mark))
