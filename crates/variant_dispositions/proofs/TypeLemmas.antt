-- What actions ask of words.
use Rattle.std.proofs.Common.{◌≡◌, ◌↔◌, ℕ, zero, suc, ◌+◌, ◌^◌, ◌<◌, Bool, true, false, refl, sym, ap, ◌∙◌, subst, arith}
use Rattle.std.specs.Prelude.{◌==◌, ◌&&◌, not, bit_and, filter}
use Rattle.std.specs.List.{Contains, list_all, list_any}
use Rattle.std.specs.Int.{bit_at, bit_not, w64}
use Rattle.std.proofs.lemmas.Bool.Decides.{Decides-eqb}
use Rattle.std.proofs.lemmas.Bool.{eq-eqb, eqb-false, ne_eqb, not-true}
use Rattle.std.proofs.lemmas.Nat.{and_le_l, and_le_r}
use Rattle.std.proofs.lemmas.Nat.Bits.{bit_at_mask_inside}
use Rattle.reading_kinds.proofs.ListMembers.{Contains-filter}
use Rattle.variant_dispositions.specs.Kinds.{Kind, bit_of, is_mapped, kind_at, kinds_in}
use Rattle.variant_dispositions.specs.Actions.{is_of}
use Rattle.variant_dispositions.proofs.MemberLemmas.{all-told, any-told, bool_same}
use Rattle.variant_dispositions.proofs.KindLemmas.{bit-none, bit-some, both-bits, Contains-kinds_in, kind_at-bit_of, left-none}

-- a word isn't 0
some-told : (word : ℕ) → (not (word == 0) ≡ true) ↔ (word ≡ 0 → ⊥)
some-told word = (λ h none. eqb-false word 0 (not-true (word == 0) h) none, λ h. ap not (ne_eqb word 0 h))

-- the bits of types are those of what is one of the types
is_of-bit : (types bit : ℕ) → bit < 64 → (bit_at (bit_and types 18446744073709551612) bit ≡ 1) ↔ (is_of types (kind_at bit) ≡ true)
is_of-bit types zero l = (λ h. absurd (let low = ((both-bits types 18446744073709551612 0).0 h).1 in omega (arith, low)), λ h. absurd (let clash : false ≡ true = h in cc))
is_of-bit types (suc zero) l = (λ h. absurd (let low = ((both-bits types 18446744073709551612 1).0 h).1 in omega (arith, low)), λ h. absurd (let clash : false ≡ true = h in cc))
is_of-bit types (suc (suc number)) l =
    let bit : suc (suc number) ≡ number + 2 = omega arith in
    let high : bit_at 18446744073709551612 (suc (suc number)) ≡ 1 = bit_at_mask_inside 2 64 (suc (suc number)) (omega arith) l in
    let both = both-bits types 18446744073709551612 (suc (suc number)) in
    let decided = Decides-eqb (bit_at types (number + 2)) 1 in (
      λ h. decided.1 (ap (bit_at types) (sym bit) ∙ (both.0 h).0),
      λ h. both.1 (ap (bit_at types) bit ∙ decided.0 h, high),
    )

-- the bits that are mapped
is_mapped-bit : (bit : ℕ) → bit < 64 → (bit_at 18446744073709551614 bit ≡ 1) ↔ (is_mapped (kind_at bit) ≡ true)
is_mapped-bit zero l = (λ h. absurd (omega (arith, h)), λ h. absurd (let clash : false ≡ true = h in cc))
is_mapped-bit (suc zero) l = (λ h. refl, λ h. refl)
is_mapped-bit (suc (suc number)) l = (λ h. refl, λ h. bit_at_mask_inside 1 64 (suc (suc number)) (omega arith) l)

-- of what a word has something passes a test of which a set has the bits
pub any-bits : (word set : ℕ) (test : Kind → Bool) → word < 2 ^ 64 → ((bit : ℕ) → bit < 64 → (bit_at set bit ≡ 1) ↔ (test (kind_at bit) ≡ true))
    → not (bit_and word set == 0) ≡ list_any test (kinds_in word)
any-bits word set test small tests =
    let told = some-told (bit_and word set) in
    let any = any-told test (kinds_in word) in
    let below = and_le_l word set in
    let there : not (bit_and word set == 0) ≡ true → list_any test (kinds_in word) ≡ true = λ h.
    let g = bit-some (bit_and word set) (omega (arith, below, small)) (told.0 h) in
    let both = (both-bits word set g.0).0 g.2 in
    any.1 (kind_at g.0, (Contains-kinds_in word g.0).1 (g.1, both.0), (tests g.0 g.1).0 both.1)
    in
    let back : list_any test (kinds_in word) ≡ true → not (bit_and word set == 0) ≡ true = λ h.
    let g = any.0 h in
    let kind : kind_at (bit_of g.0) ≡ g.0 = kind_at-bit_of g.0 in
    let inside = (Contains-kinds_in word (bit_of g.0)).0 (subst (Contains (kinds_in word)) (sym kind) g.1) in
    told.1 (λ none. bit-none (bit_and word set) (bit_of g.0) none ((both-bits word set (bit_of g.0)).1 (inside.1, (tests (bit_of g.0) inside.0).1 (ap test kind ∙ g.2))))
    in
    bool_same (not (bit_and word set == 0)) (list_any test (kinds_in word)) there back

-- all of it does
pub all-bits : (word set : ℕ) (test : Kind → Bool) → word < 2 ^ 64 → set < 2 ^ 64 → ((bit : ℕ) → bit < 64 → (bit_at set bit ≡ 1) ↔ (test (kind_at bit) ≡ true))
    → (bit_and word (bit_not w64 set) == 0) ≡ list_all test (kinds_in word)
all-bits word set test small few tests =
    let none = left-none word set small few in
    let decided = Decides-eqb (bit_and word (bit_not w64 set)) 0 in
    let all = all-told test (kinds_in word) in
    let passes : (bit_and word (bit_not w64 set) == 0) ≡ true → (kind : Kind) → Contains (kinds_in word) kind → test kind ≡ true = λ h kind inside.
    let there = kind_at-bit_of kind in
    let g = (Contains-kinds_in word (bit_of kind)).0 (subst (Contains (kinds_in word)) (sym there) inside) in
    ap test (sym there) ∙ (tests (bit_of kind) g.0).0 (none.0 (decided.0 h) (bit_of kind) g.0 g.1)
    in
    bool_same (bit_and word (bit_not w64 set) == 0) (list_all test (kinds_in word)) (λ h. all.1 (passes h))
    (λ h. decided.1 (none.1 (λ bit l one. (tests bit l).1 (all.0 h (kind_at bit) ((Contains-kinds_in word bit).1 (l, one))))))

types-below : (types : ℕ) → bit_and types 18446744073709551612 < 2 ^ 64
types-below types = let below = and_le_r types 18446744073709551612 in omega (arith, below)

pub any-met : (kinds types : ℕ) → kinds < 2 ^ 64 → not (bit_and kinds (bit_and types 18446744073709551612) == 0) ≡ list_any (is_of types) (kinds_in kinds)
any-met kinds types small = any-bits kinds (bit_and types 18446744073709551612) (is_of types) small (is_of-bit types)

pub only-met : (kinds types : ℕ) → kinds < 2 ^ 64 → (bit_and kinds (bit_not w64 (bit_and types 18446744073709551612)) == 0) ≡ list_all (is_of types) (kinds_in kinds)
only-met kinds types small = all-bits kinds (bit_and types 18446744073709551612) (is_of types) small (types-below types) (is_of-bit types)

-- what is mapped of a word
mapped-bits : (kinds bit : ℕ) → bit < 64 → (bit_at (bit_and kinds 18446744073709551614) bit ≡ 1) ↔ ((bit_at kinds bit ≡ 1) × (is_mapped (kind_at bit) ≡ true))
mapped-bits kinds bit l =
    let both = both-bits kinds 18446744073709551614 bit in
    let mapped = is_mapped-bit bit l in
    (λ h. let g = both.0 h in (g.0, mapped.0 g.1), λ h. both.1 (h.0, mapped.1 h.1))

-- a set of types takes in what is mapped exactly if each kind that is mapped is one of the types
mapped-all : (kinds types : ℕ) → list_all (is_of types) (kinds_in (bit_and kinds 18446744073709551614)) ≡ list_all (is_of types) (filter is_mapped (kinds_in kinds))
mapped-all kinds types =
    let mapped : ℕ = bit_and kinds 18446744073709551614 in
    let one = all-told (is_of types) (kinds_in mapped) in
    let other = all-told (is_of types) (filter is_mapped (kinds_in kinds)) in
    let there : list_all (is_of types) (kinds_in mapped) ≡ true → (kind : Kind) → Contains (filter is_mapped (kinds_in kinds)) kind → is_of types kind ≡ true = λ h kind c.
    let same = kind_at-bit_of kind in
    let f = (Contains-filter is_mapped (kinds_in kinds) kind).0 c in
    let g = (Contains-kinds_in kinds (bit_of kind)).0 (subst (Contains (kinds_in kinds)) (sym same) f.0) in
    one.0 h kind (subst (Contains (kinds_in mapped)) same ((Contains-kinds_in mapped (bit_of kind)).1 (g.0, (mapped-bits kinds (bit_of kind) g.0).1 (g.1, ap is_mapped same ∙ f.1))))
    in
    let back : list_all (is_of types) (filter is_mapped (kinds_in kinds)) ≡ true → (kind : Kind) → Contains (kinds_in mapped) kind → is_of types kind ≡ true = λ h kind c.
    let same = kind_at-bit_of kind in
    let g = (Contains-kinds_in mapped (bit_of kind)).0 (subst (Contains (kinds_in mapped)) (sym same) c) in
    let m = (mapped-bits kinds (bit_of kind) g.0).0 g.1 in
    other.0 h kind ((Contains-filter is_mapped (kinds_in kinds) kind).1 (subst (Contains (kinds_in kinds)) same ((Contains-kinds_in kinds (bit_of kind)).1 (g.0, m.0)), ap is_mapped (sym same) ∙ m.1))
    in
    bool_same (list_all (is_of types) (kinds_in mapped)) (list_all (is_of types) (filter is_mapped (kinds_in kinds))) (λ h. other.1 (there h)) (λ h. one.1 (back h))

pub all-met : (kinds types : ℕ) → kinds < 2 ^ 64
    → (not (bit_and kinds 18446744073709551614 == 0) && (bit_and (bit_and kinds 18446744073709551614) (bit_not w64 (bit_and types 18446744073709551612)) == 0))
    ≡ (list_any is_mapped (kinds_in kinds) && list_all (is_of types) (filter is_mapped (kinds_in kinds)))
all-met kinds types small =
    let below = and_le_l kinds 18446744073709551614 in
    let some : not (bit_and kinds 18446744073709551614 == 0) ≡ list_any is_mapped (kinds_in kinds) = any-bits kinds 18446744073709551614 is_mapped small is_mapped-bit in
    let all : (bit_and (bit_and kinds 18446744073709551614) (bit_not w64 (bit_and types 18446744073709551612)) == 0) ≡ list_all (is_of types) (filter is_mapped (kinds_in kinds)) =
    only-met (bit_and kinds 18446744073709551614) types (omega (arith, below, small)) ∙ mapped-all kinds types in
    ap (λ (b : Bool). b && (bit_and (bit_and kinds 18446744073709551614) (bit_not w64 (bit_and types 18446744073709551612)) == 0)) some
    ∙ ap (λ (b : Bool). list_any is_mapped (kinds_in kinds) && b) all

-- what 'all' answers where something is mapped, and where nothing is
pub all-some : (kinds types : ℕ) → kinds < 2 ^ 64 → (bit_and kinds 18446744073709551614 ≡ 0 → ⊥)
    → (bit_and (bit_and kinds 18446744073709551614) (bit_not w64 (bit_and types 18446744073709551612)) == 0) ≡ (list_any is_mapped (kinds_in kinds) && list_all (is_of types) (filter is_mapped (kinds_in kinds)))
all-some kinds types small some =
    ap (λ (b : Bool). b && (bit_and (bit_and kinds 18446744073709551614) (bit_not w64 (bit_and types 18446744073709551612)) == 0)) (sym ((some-told (bit_and kinds 18446744073709551614)).1 some))
    ∙ all-met kinds types small

pub all-none : (kinds types : ℕ) → kinds < 2 ^ 64 → bit_and kinds 18446744073709551614 ≡ 0
    → not (bit_and kinds 18446744073709551614 == 0) ≡ (list_any is_mapped (kinds_in kinds) && list_all (is_of types) (filter is_mapped (kinds_in kinds)))
all-none kinds types small none =
    let is : not (bit_and kinds 18446744073709551614 == 0) ≡ false = ap not (eq-eqb (bit_and kinds 18446744073709551614) 0 none) in
    is ∙ sym (ap (λ (b : Bool). b && (bit_and (bit_and kinds 18446744073709551614) (bit_not w64 (bit_and types 18446744073709551612)) == 0)) is) ∙ all-met kinds types small
