use Rattle.std.proofs.Common.{◌≡◌, ℕ, ◌<◌, ◌≤◌, IfOk, List, [], ◌∷◌, Option, length, get_or, sym, ap, subst, arith}
use Rattle.std.specs.Prelude.{option_map}
use Rattle.xml_text.specs.Attributes.{Attribute}
use Rattle.lgr_text.specs.Documents as documents
use Rattle.lgr_text.proofs.documents.prefix_of.Goals as goal

of_one : (attributes : List Attribute) (a : Attribute) → 1 ≤ length attributes → length attributes < 2 → a ≡ get_or attributes 0 a → documents.prefix_of attributes ≡ documents.declared_in a
of_one [] a some few is = absurd (omega (arith, some))
of_one (b ∷ []) a some few is = ap documents.declared_in (sym is)
of_one (b ∷ d ∷ attributes) a some few is = absurd (omega (arith, few))

pub returns-in-len1 : goal.returns-in-len1
returns-in-len1 c =
    subst (λ (o : Option (List ℕ)). IfOk c.declared_in.result (λ found. option_map (λ v. v.items) found ≡ o))
    (sym (of_one c.args.attributes.now c.attribute-item.result c.in-len1.len_at_least c.in-len1.len_below c.attribute-item.is)) c.declared_in.ensures
