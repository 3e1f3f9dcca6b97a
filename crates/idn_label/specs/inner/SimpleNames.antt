-- The names that lookup answers without the whole of UTS 46.
use Rattle.std.specs.Prelude.{◌≡◌, ◌≤◌, ℕ, true, false, ◌==◌, List, ◌++◌, length, All}
use Rattle.std.specs.List.{list_any}
use Rattle.ucd_idna_map.specs.IdnaStatus.{idna_status}
use Rattle.idn_class.specs.declared.facts.Fact.{Fact}
use Rattle.idn_class.specs.declared.facts.Fact.TheVariants.{RightToLeft}
use Rattle.idn_class.specs.declared.facts.Facts.{Facts}
use Rattle.idn_class.specs.Facts.{contains, has_fact, AreFactsOf}
use Rattle.idna.specs.AsciiDenyList.{may_be_denied}
use Rattle.idna.specs.BidiRule.{passes_bidi_rule}
use Rattle.idna.specs.ContextJ.{zero_width_non_joiner, zero_width_joiner}
use Rattle.idna.specs.Validity.{begins_with_mark, has_ace_prefix, is_valid_status}

-- what UTS 46, section 4.1, asks of a single code point, by any list of denied ones, and no joiner,
-- which would need a context
pub record PassesInName (c : ℕ) : Type 0 where
  pub valid : is_valid_status (idna_status c) ≡ true
  pub no_non_joiner : (c == zero_width_non_joiner) ≡ false
  pub no_joiner : (c == zero_width_joiner) ≡ false
  pub allowed : may_be_denied c ≡ false

-- these code points, each of which passes, are appended to those before, and these are their facts
pub record AreAppended (before after points : List ℕ) (facts : Facts) : Type 0 where
  pub items : after ≡ before ++ points
  pub passes : All PassesInName points
  pub facts_of : AreFactsOf facts points

-- each fact that some code point of the label has is among these, which are those of its whole name
abbrev pub Cover : Facts → List ℕ → Type 0
Cover facts label = (fact : Fact) → contains facts fact ≡ false → list_any (has_fact fact) label ≡ false

-- what section 4.1 asks beyond that of a label in NFC, the Bidi rule where a code point of the name is right-to-left
pub record IsTested (facts : Facts) (label : List ℕ) : Type 0 where
  pub few : length label ≤ 63
  pub no_prefix : has_ace_prefix label ≡ false
  pub no_mark : begins_with_mark label ≡ false
  pub bidi : contains facts RightToLeft ≡ true → passes_bidi_rule label ≡ true
