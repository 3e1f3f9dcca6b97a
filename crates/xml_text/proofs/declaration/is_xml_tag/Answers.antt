use Rattle.std.proofs.Common.{rules, ◌≡◌, ◌≤◌, List, ℕ, length, take, subst, ap, take_all, arith}
use Rattle.xml_text.specs.declared.fault.ReadError.TheVariants.{Stop}
use Rattle.xml_text.specs.TagStops.{StopsAt}
use Rattle.xml_text.specs.Tags.{IsTag, tag}
use Rattle.xml_text.proofs.DeclarationLemmas.{tag_text, whole_tag, part_tag, no_tag}
use Rattle.xml_text.proofs.declaration.is_xml_tag.Goals as goal

pub returns-then-length-len-clause-is : goal.returns-then-length-len-clause-is
returns-then-length-len-clause-is c =
    let inside = c.args.inside.now in
    let n = c.in-Ok.length in
    let text : c.deref.result.now ≡ tag_text inside = search rules in
    let read : IsTag (take n (tag_text inside)) (tag c.in-Ok.tag) = subst (λ (t : List ℕ). IsTag (take n t) (tag c.in-Ok.tag)) text c.in-Ok.ensures.read in
    let long : length (tag_text inside) ≤ n = omega (arith, ap length text, c.deref.ensures.len, c.len.ensures) in
    whole_tag c.args.ascii inside (tag c.in-Ok.tag) c.is_declared.result (subst (λ (t : List ℕ). IsTag t (tag c.in-Ok.tag)) (take_all n (tag_text inside) long) read) c.is_declared.ensures

pub returns-in-Ok-clause-is : goal.returns-in-Ok-clause-is
returns-in-Ok-clause-is c =
    let inside = c.args.inside.now in
    let n = c.in-Ok.length in
    let text : c.deref.result.now ≡ tag_text inside = search rules in
    let read : IsTag (take n (tag_text inside)) (tag c.in-Ok.tag) = subst (λ (t : List ℕ). IsTag (take n t) (tag c.in-Ok.tag)) text c.in-Ok.ensures.read in
    part_tag c.args.ascii inside n (tag c.in-Ok.tag) read (omega (arith, ap length text, c.deref.ensures.len, c.len.ensures)) (omega (arith, ap length text, c.in-Ok.ensures.within))

pub returns-in-Err-Stop-clause-is : goal.returns-in-Err-Stop-clause-is
returns-in-Err-Stop-clause-is c =
    let inside = c.args.inside.now in
    let n = c.in-Err-Stop.field-0-0 in
    let text : c.deref.result.now ≡ tag_text inside = search rules in
    let stop : StopsAt (tag_text inside) (Stop n) = subst (λ (t : List ℕ). StopsAt t (Stop n)) text (rw c.in-Err-Stop.field-0-is at c.in-Err-Stop.ensures.stop) in
    no_tag c.args.ascii inside n stop.1
