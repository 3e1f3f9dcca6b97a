use Rattle.std.proofs.Common.{rules, ◌≡◌, ◌∷◌, ◌+◌, Bool, true, false, List, ℕ, length, take, drop, codes, subst, sym, ap, ◌∙◌}
use Rattle.xml_text.specs.Files.{is_ascii, IsXmlTag}
use Rattle.xml_text.specs.Pieces.{begins_with}
use Rattle.xml_text.proofs.DeclarationLemmas.{two_bytes, wrong_end, wrong_inside, right_declaration}
use Rattle.xml_text.proofs.declaration.read_declaration.Goals as goal

pub returns-then-not-ends-clause-wrong : goal.returns-then-not-ends-clause-wrong
returns-then-not-ends-clause-wrong c =
    let text = c.args.text.now in
    let rest = c.split_at.result.1.now in
    let k = c.declared_length.result in
    let begins = two_bytes text c.requires.declares ∙ ap (λ (l : List ℕ). 60 ∷ 63 ∷ l) (sym c.split_at.ensures.back) in
    let none : begins_with (codes "?>") (drop k rest) ≡ false = ap (begins_with (codes "?>")) (sym c.split_at-2.ensures.back) ∙ search rules in
    wrong_end text rest k c.requires.declares begins c.declared_length.ensures.bytes c.declared_length.ensures.end none

pub returns-then-branch-clause-declared : goal.returns-then-branch-clause-declared
returns-then-branch-clause-declared c =
    let text = c.args.text.now in
    let rest = c.split_at.result.1.now in
    let k = c.declared_length.result in
    let begins = two_bytes text c.requires.declares ∙ ap (λ (l : List ℕ). 60 ∷ 63 ∷ l) (sym c.split_at.ensures.back) in
    let end : begins_with (codes "?>") (drop k rest) ≡ true = ap (begins_with (codes "?>")) (sym c.split_at-2.ensures.back) ∙ search rules in
    let is : IsXmlTag (is_ascii text) (take k rest) = subst (λ (a : Bool). IsXmlTag a (take k rest)) c.is_ascii.ensures (subst (IsXmlTag c.is_ascii.result) c.split_at-2.ensures.front (rw c.if-branch.true at c.in_ok-is_xml_tag.ensures.is)) in
    (right_declaration (is_ascii text) text rest k (length c.split_at-2.result.0.now + 4) begins c.declared_length.ensures.bytes c.declared_length.ensures.within end is (ap (λ (l : List ℕ). length l + 4) c.split_at-2.ensures.front)).1

pub returns-else-branch-clause-wrong : goal.returns-else-branch-clause-wrong
returns-else-branch-clause-wrong c =
    let text = c.args.text.now in
    let rest = c.split_at.result.1.now in
    let k = c.declared_length.result in
    let begins = two_bytes text c.requires.declares ∙ ap (λ (l : List ℕ). 60 ∷ 63 ∷ l) (sym c.split_at.ensures.back) in
    let none : IsXmlTag (is_ascii text) (take k rest) → ⊥ = subst (λ (a : Bool). IsXmlTag a (take k rest) → ⊥) c.is_ascii.ensures (subst (λ (l : List ℕ). IsXmlTag c.is_ascii.result l → ⊥) c.split_at-2.ensures.front (rw c.if-branch.false at c.in_ok-is_xml_tag.ensures.is)) in
    wrong_inside text rest k c.requires.declares begins c.declared_length.ensures.bytes c.declared_length.ensures.end none
