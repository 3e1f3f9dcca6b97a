-- What an element says, by how many levels of elements it may have.
use Rattle.std.proofs.Common.{◌≡◌, ℕ, zero, suc, ◌-◌, ◌<◌, None, refl, ap, arith}
use Rattle.std.specs.Prelude.{option_map}
use Rattle.lgr_text.specs.declared.classes.ClassPlace.{ClassPlace}
use Rattle.lgr_text.specs.declared.classes.ClassPlace.TheVariants.{InRule, InSet}
use Rattle.lgr_text.specs.Classes.{class_as, class_element, class_of}
use Rattle.lgr_text.specs.Elements.{Node, each_element}
use Rattle.lgr_text.specs.Parts.{item_of, part_as, part_of, rule_element}
use Rattle.lgr_text.specs.Records.{Of}

pub class-none : (levels : ℕ) (place : ClassPlace) (node : Node) → levels ≡ 0 → class_of levels place node ≡ None
unfolding class_of
class-none zero place node e = refl
class-none (suc levels) place node e = absurd (omega arith)

pub class-some : (levels : ℕ) (place : ClassPlace) (node : Node) → 0 < levels → class_of levels place node ≡ class_as (class_element node.name) (each_element (class_of (levels - 1) InSet)) place node
unfolding class_of
class-some zero place node l = absurd (omega arith)
class-some (suc levels) place node l =
    let one : levels ≡ suc levels - 1 = omega arith in
    ap (λ n. class_as (class_element node.name) (each_element (class_of n InSet)) place node) one

pub part-none : (levels : ℕ) (node : Node) → levels ≡ 0 → part_of levels node ≡ None
unfolding part_of
part-none zero node e = refl
part-none (suc levels) node e = absurd (omega arith)

pub part-some : (levels : ℕ) (node : Node) → 0 < levels → part_of levels node ≡ part_as (rule_element node.name node.attributes) (option_map Of (class_of levels InRule node)) (each_element (item_of (levels - 1))) node
unfolding part_of
part-some zero node l = absurd (omega arith)
part-some (suc levels) node l =
    let one : levels ≡ suc levels - 1 = omega arith in
    ap (λ n. part_as (rule_element node.name node.attributes) (option_map Of (class_of (suc levels) InRule node)) (each_element (item_of n)) node) one
