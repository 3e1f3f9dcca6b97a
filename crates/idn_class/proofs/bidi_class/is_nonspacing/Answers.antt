use Rattle.std.proofs.Common.{◌≡◌, ℕ, ◌||◌, Bool, true, false, refl, sym, ◌∙◌}
use Rattle.unicode.specs.GeneralCategory.{general_category}
use Rattle.ucd_category.specs.declared.GeneralCategory.{GeneralCategory}
use Rattle.ucd_category.specs.declared.GeneralCategory.TheVariants.{NonspacingMark as Mn, EnclosingMark as Me}
use Rattle.idn_class.specs.BidiClass.{is_nonspacing, is_nonspacing_or_enclosing}
use Rattle.idn_class.specs.Facts.{has_fact, fact_holds}
use Rattle.idn_class.specs.LeadingMark.{is_mark, is_mark_category}
use Rattle.idn_class.specs.declared.facts.Fact.TheVariants.{Mark}
use Rattle.idn_class.proofs.bidi_class.is_nonspacing.Goals as goal

no_mark_category : (category : GeneralCategory) → is_mark_category category ≡ false → is_nonspacing_or_enclosing category ≡ false
no_mark_category Mn none = none
no_mark_category Me none = none
no_mark_category _ none = refl

or_second : (a b : Bool) → (a || b) ≡ false → b ≡ false
or_second true b h = absurd (let clash : true ≡ false = h in cc)
or_second false b h = h

no_mark : (c : ℕ) → has_fact Mark c ≡ false → is_nonspacing c ≡ false
unfolding fact_holds is_mark is_nonspacing
no_mark c none = no_mark_category (general_category c) (or_second _ _ none)

pub returns-then-not-contains : goal.returns-then-not-contains
returns-then-not-contains c = sym (no_mark c.args.c (sym (c.contains.ensures ∙ c.of.ensures Mark) ∙ c.if-not-contains.true))
