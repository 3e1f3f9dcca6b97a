-- Whatever was read of a tag, some tag goes on.
use Rattle.std.proofs.Common.{◌≡◌, ℕ, ◌+◌, ◌<◌, zero, suc, inl, inr, Bool, true, false, ◌||◌, List, [], ◌∷◌, ◌++◌, length, bytes_eq, refl, sym, ap, ◌∙◌, subst, append_assoc, append-nil, length-append, arith}
use Rattle.std.specs.List.{list_all}
use Rattle.std.proofs.lemmas.List.Folds.{list_all-append}
use Rattle.std.proofs.lemmas.Slice.Eq.{bytes_eq-Decides}
use Rattle.idn_text.specs.Stops.{Begins}
use Rattle.xml_text.specs.declared.attribute.TagKind.TheVariants.{Start, Empty}
use Rattle.xml_text.specs.declared.quote.Quote.{Quote}
use Rattle.xml_text.specs.declared.quote.Quote.TheVariants as quote
use Rattle.xml_text.specs.declared.state.Phase.{Phase}
use Rattle.xml_text.specs.declared.state.Phase.TheVariants as phase
use Rattle.xml_text.specs.Attributes.{Attribute, is_named}
use Rattle.xml_text.specs.Names.{is_name_start, is_name_byte, is_name}
use Rattle.xml_text.specs.Tags.{quote_byte, IsTag}
use Rattle.xml_text.specs.TagStops.{IsATag, IsBegun}
use Rattle.xml_text.specs.inner.TagSteps.{State, tag_of}
use Rattle.xml_text.proofs.ListLemmas.{and_both, both_and}
use Rattle.xml_text.proofs.TagReached.{AtBlanks, AtName, AtLeft, AtRight, AtValue, AtTagName, ReachedBy, blanks_of, name_done, tag_closed, empty_closed, value_closed}

-- ---- a name that no attribute has

total : List Attribute → ℕ
total [] = 0
total (x ∷ xs) = length x.name + total xs

other_length : (xs ys : List ℕ) → length xs < length ys → bytes_eq xs ys ≡ false
other_length xs ys l = by (bytes_eq xs ys) refl
  where
    by : (b : Bool) → bytes_eq xs ys ≡ b → b ≡ false
    by false e = refl
    by true e = absurd (let same : xs ≡ ys = (bytes_eq-Decides xs ys).0 e in omega (arith, ap length same))

long_is_new : (attributes : List Attribute) (a : List ℕ) → total attributes < length a → is_named attributes a ≡ false
unfolding total
long_is_new [] a l = refl
long_is_new (x ∷ xs) a l =
    let short : length x.name < length a = omega arith in
    let rest : total xs < length a = omega arith in
    ap (λ (b : Bool). b || is_named xs a) (other_length x.name a short) ∙ long_is_new xs a rest

letters : ℕ → List ℕ
letters zero = []
letters (suc n) = 97 ∷ letters n

are_letters : (n : ℕ) → list_all is_name_byte (letters n) ≡ true
unfolding letters
are_letters zero = refl
are_letters (suc n) = are_letters n

length-letters : (n : ℕ) → length (letters n) ≡ n
unfolding letters
length-letters zero = refl
length-letters (suc n) = ap suc (length-letters n)

names_more : (a x : List ℕ) → is_name a ≡ true → list_all is_name_byte x ≡ true → is_name (a ++ x) ≡ true
names_more [] x is are = absurd (cc)
names_more (b ∷ a) x is are =
    let both = and_both (is_name_start b) (list_all is_name_byte a) is in
    both_and (is_name_start b) (list_all is_name_byte (a ++ x)) both.0 (list_all-append is_name_byte a x ∙ both_and (list_all is_name_byte a) (list_all is_name_byte x) both.1 are)

-- ---- what goes on

later : (text x : List ℕ) → Begins IsATag (text ++ x) → Begins IsATag text
later text x b = (x ++ b.0, subst IsATag (append_assoc text x b.0) b.1)

blanks_live : (n : List ℕ) (given : List Attribute) (text : List ℕ) → AtBlanks n given text → Begins IsATag text
blanks_live n given text at = (62 ∷ [], (record { name = n; attributes = given; kind = Start }, tag_closed n given text Start at))

value_live : (q : Quote) (n : List ℕ) (given : List Attribute) (a v text : List ℕ) → AtValue q n given a v text → Begins IsATag text
value_live q n given a v text at =
    let more = given ++ record { name = a; value = v } ∷ [] in
    later text (quote_byte q ∷ []) (blanks_live n more (text ++ quote_byte q ∷ []) (blanks_of n more (text ++ quote_byte q ∷ []) (value_closed q n given a v text at)))

right_live : (n : List ℕ) (given : List Attribute) (a text : List ℕ) → AtRight n given a text → Begins IsATag text
right_live n given a text at =
    later text (34 ∷ []) (value_live quote.Double n given a [] (text ++ 34 ∷ []) (record { front = text; at = at; parts = []; spelled = refl; is = refl; are = refl }))

left_live : (n : List ℕ) (given : List Attribute) (a text : List ℕ) → AtLeft n given a text → Begins IsATag text
left_live n given a text at = later text (61 ∷ []) (right_live n given a (text ++ 61 ∷ []) (record { front = text; at = at; right = []; spelled = refl; are = refl }))

name_live : (n : List ℕ) (given : List Attribute) (a text : List ℕ) → AtName n given a text → Begins IsATag text
name_live n given a text at =
    let x = letters (total given + 1) in
    let long : total given < length (a ++ x) = omega (arith, length-append a x, length-letters (total given + 1)) in
    later text x (left_live n given (a ++ x) (text ++ x) (record {
      front = text ++ x;
      at = record {
        front = at.front;
        at = at.at;
        spelled = ap (λ (t : List ℕ). t ++ x) at.spelled ∙ append_assoc at.front a x;
        is = names_more a x at.is (are_letters (total given + 1));
      };
      new = long_is_new given (a ++ x) long;
      left = [];
      spelled = sym (append-nil (text ++ x));
      are = refl;
    }))

tag_name_live : (n : List ℕ) (given : List Attribute) (text : List ℕ) → AtTagName n given text → Begins IsATag text
tag_name_live n given text at = blanks_live n given text (blanks_of n given text (name_done n given text at))

begin_live : (text : List ℕ) → text ≡ 60 ∷ [] → Begins IsATag text
begin_live text e = later text (97 ∷ []) (tag_name_live (97 ∷ []) [] (text ++ 97 ∷ []) (record { spelled = ap (λ (t : List ℕ). t ++ 97 ∷ []) e; is = refl; none = refl }))

pub live_by : (p : Phase) (s : State) (text : List ℕ) → ReachedBy p s text → IsBegun IsATag text
live_by phase.Open s text at = inl (later text (60 ∷ []) (begin_live (text ++ 60 ∷ []) (ap (λ (t : List ℕ). t ++ 60 ∷ []) at.spelled)))
live_by phase.Begin s text at = inl (begin_live text at.spelled)
live_by phase.Name s text at = inl (tag_name_live s.name s.attributes text at)
live_by phase.After s text at = inl (blanks_live s.name s.attributes text (blanks_of s.name s.attributes text at))
live_by phase.Blank s text at = inl (blanks_live s.name s.attributes text at.at)
live_by phase.Attribute s text at = inl (name_live s.name s.attributes s.attribute text at.0)
live_by phase.BeforeEquals s text at = inl (left_live s.name s.attributes s.attribute text at.0)
live_by phase.AfterEquals s text at = inl (right_live s.name s.attributes s.attribute text at.0)
live_by (phase.Value q) s text at = inl (value_live q s.name s.attributes s.attribute s.value text at)
live_by (phase.Reference q) s text at = inr (at.front, s.reference, value_live q s.name s.attributes s.attribute s.value at.front at.at, at.spelled, at.are)
live_by phase.Slash s text at = inl (62 ∷ [], (tag_of s Empty, empty_closed s.name s.attributes text at))
live_by (phase.Ended kind) s text at = inl ([], (tag_of s kind, subst (λ (t : List ℕ). IsTag t (tag_of s kind)) (sym (append-nil text)) at))
