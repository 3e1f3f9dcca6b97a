-- What one look-up says about a code point. If no code point of a label has a fact, the label passes the test that the
-- fact stands for.
use Rattle.std.specs.Prelude.{◌≡◌, ℕ, Bool, true, false, ◌&&◌, ◌||◌, ◌==◌, not, nat_le, List}
use Rattle.std.specs.Int.{bit_at}
use Rattle.std.specs.List.{list_any}
use Rattle.ucd_idna_map.specs.declared.IdnaStatus.{IdnaStatus}
use Rattle.ucd_idna_map.specs.declared.IdnaStatus.TheVariants.{Valid, Deviation}
use Rattle.ucd_idna_map.specs.IdnaStatus.{idna_status}
use Rattle.ucd_normal.specs.declared.forms.Form.TheVariants.{Nfc}
use Rattle.ucd_normal.specs.declared.forms.QuickCheck.{QuickCheck}
use Rattle.ucd_normal.specs.declared.forms.QuickCheck.TheVariants.{Yes}
use Rattle.ucd_normal.specs.CanonicalCombiningClass.{canonical_combining_class}
use Rattle.ucd_normal.specs.QuickCheck.{quick_check}
use Rattle.idn_class.specs.declared.class.Class.{Class}
use Rattle.idn_class.specs.declared.class.Class.TheVariants as classes
use Rattle.idn_class.specs.declared.facts.Fact.{Fact}
use Rattle.idn_class.specs.declared.facts.Fact.TheVariants.{MayBeBarred, Contextj, Contexto, MayCompose, Mark}
use Rattle.idn_class.specs.declared.facts.Fact.TheVariants.{RightToLeft, NotKept}
use Rattle.idn_class.specs.declared.facts.Facts.{Facts}
use Rattle.idn_class.specs.Barring.{is_barred}
use Rattle.idn_class.specs.BidiClass.{bidi_class}
use Rattle.idn_class.specs.BidiRule.{is_rtl_class}
use Rattle.idn_class.specs.Class.{class_of, is_left_open}
use Rattle.idn_class.specs.LeadingMark.{is_mark}
use Rattle.idn_class.specs.declared.properties.Properties.TheVariants.{Profile, Unicode}

abbrev pub is_contextj : Class → Bool
is_contextj classes.Contextj = true
is_contextj _ = false

abbrev pub is_contexto : Class → Bool
is_contexto classes.Contexto = true
is_contexto _ = false

abbrev pub is_yes : QuickCheck → Bool
is_yes Yes = true
is_yes _ = false

-- UTS 46 maps the code point to itself; it does so with a deviation character too, where processing is not transitional
abbrev pub is_kept_status : IdnaStatus → Bool
is_kept_status Valid = true
is_kept_status Deviation = true
is_kept_status _ = false

-- a code point has the fact
unfoldable pub fact_holds : Fact → ℕ → Bool
-- it may not be registered, or no look-up says whether it may
fact_holds MayBeBarred c = is_barred (class_of Profile c) || is_left_open c
-- a joiner, or another code point that needs a context (RFC 5892, appendix A)
fact_holds Contextj c = is_contextj (class_of Profile c)
fact_holds Contexto c = is_contexto (class_of Profile c)
-- NFC may change a text that holds it (UAX 15, section 9)
fact_holds MayCompose c = not (is_yes (quick_check Nfc c) && (canonical_combining_class c == 0))
-- it may not begin a label (RFC 5891, section 4.2.3.2)
fact_holds Mark c = is_mark c
-- it makes the Bidi rule apply, by the profile or by Unicode (RFC 5893, section 2)
fact_holds RightToLeft c = is_rtl_class (bidi_class Profile c) || is_rtl_class (bidi_class Unicode c)
-- UTS 46 maps it to another text, ignores it or disallows it
fact_holds NotKept c = not (is_kept_status (idna_status c))

-- the same, and a number past Unicode has each fact
abbrev pub has_fact : Fact → ℕ → Bool
has_fact fact c = nat_le 0x11_0000 c || fact_holds fact c

-- the bit of a fact
abbrev pub place_of : Fact → ℕ
place_of MayBeBarred = 0
place_of Contextj = 1
place_of Contexto = 2
place_of MayCompose = 3
place_of Mark = 4
place_of RightToLeft = 5
place_of NotKept = 6

-- a fact is among the facts
unfoldable pub contains : Facts → Fact → Bool
contains facts fact = bit_at facts.absent (place_of fact) == 0

-- the facts that some code point of the label has
abbrev pub AreFactsOf : Facts → List ℕ → Type 0
AreFactsOf facts label = (fact : Fact) → contains facts fact ≡ list_any (has_fact fact) label
