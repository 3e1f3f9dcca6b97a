-- Examples of code points that no table may hold: their classes are looked up.
use Rattle.std.proofs.Common.{◌≡◌, ℕ, Bool, true, false, cond, Option, Some, None, refl, ap, ◌∙◌}
use Rattle.std.specs.Prelude.{codes, not}
use Rattle.std.specs.Option.{option_or}
use Rattle.idn_class.specs.declared.class.Class.TheVariants.{Disallowed, Pvalid}
use Rattle.idn_class.proofs.ComputedLabels.{in_table, class_of-in_table}
use Rattle.idn_text.specs.Points.{point_of_hex}
use Rattle.ruleset_text.specs.Classes.{is_bad_point, is_label_class}
use Rattle.ruleset_text.specs.EntrySteps.{entry_read}
use Rattle.ruleset_text.specs.declared.fault.FaultPlace.{FaultPlace}
use Rattle.ruleset_text.specs.declared.fault.FaultPlace.TheVariants.{InRange, Point}
use Rattle.variant_table.specs.declared.fault.TableFault.TheVariants as tables
use Rattle.variant_table.specs.declared.version.Version.TheVariants.{One, Two, Three}
use Rattle.variant_table.specs.PlaceExamples.{told}
use Rattle.idn_class.specs.declared.properties.Properties.TheVariants.{Profile}

good-61 : is_bad_point Profile 0x61 ≡ false
unfolding in_table
good-61 = ap (λ c. not (is_label_class c)) (class_of-in_table Profile 0x61 Pvalid refl)

good-7A : is_bad_point Profile 0x7A ≡ false
unfolding in_table
good-7A = ap (λ c. not (is_label_class c)) (class_of-in_table Profile 0x7A Pvalid refl)

bad-7B : is_bad_point Profile 0x7B ≡ true
unfolding in_table
bad-7B = ap (λ c. not (is_label_class c)) (class_of-in_table Profile 0x7B Disallowed refl)

pub range_told : told Two (tables.BadClass 1) (codes "007A..007C") ≡ Some (InRange 0 0x7B)
unfolding point_of_hex entry_read
range_told =
    let found : Bool → Bool → Bool → Option ℕ = λ a b c. cond a (Some 0x7A) (cond b (Some 0x7B) (cond c (Some 0x7C) None)) in
    let of_range : Option ℕ → Option FaultPlace = λ o. elim o [ None ↦ None | Some c ↦ Some (InRange 0 c) ] in
    ap (λ a. of_range (found a (is_bad_point Profile 0x7B) (is_bad_point Profile 0x7C))) good-7A ∙ ap (λ b. of_range (found false b (is_bad_point Profile 0x7C))) bad-7B

-- the first of these that is told
abbrev first_of : Bool → Bool → Bool → FaultPlace → FaultPlace → FaultPlace → Option FaultPlace
first_of a b c p q r = option_or (cond a (Some p) None) (option_or (cond b (Some q) None) (option_or (cond c (Some r) None) None))

pub point_told : told One (tables.BadClass 1) (codes "0061|007B:0041") ≡ Some (Point 5 0x7B)
unfolding point_of_hex entry_read
point_told =
    let first : Bool → Bool → Option FaultPlace = λ a b. first_of a b (is_bad_point Profile 0x41) (Point 0 0x61) (Point 5 0x7B) (Point 10 0x41) in
    ap (λ a. first a (is_bad_point Profile 0x7B)) good-61 ∙ ap (first false) bad-7B

pub set_told : told Three (tables.BadClass 1) (codes "%set FB1D 0061 007B") ≡ Some (Point 15 0x7B)
unfolding point_of_hex
set_told =
    let first : Bool → Bool → Option FaultPlace = λ a b. option_or (cond a (Some (Point 10 0x61)) None) (option_or (cond b (Some (Point 15 0x7B)) None) None) in
    ap (λ a. first a (is_bad_point Profile 0x7B)) good-61 ∙ ap (first false) bad-7B
