use Rattle.std.proofs.Common.{◌≡◌, false, cond, None, sym, ap, ◌∙◌}
use Rattle.std.specs.Prelude.{bytes_eq}
use Rattle.lgr_text.specs.Documents.{declared_by, namespace}
use Rattle.lgr_text.proofs.documents.declared_in.Goals as goal

pub returns-else-eq : goal.returns-else-eq
returns-else-eq c =
    let a = c.args.attribute.now in
    let other : bytes_eq a.value namespace ≡ false = ap (λ v. bytes_eq v namespace) (sym c.value.ensures) ∙ sym c.eq.ensures ∙ c.if-eq.false in
    sym (ap (λ b. cond b (declared_by a.name) None) other)
