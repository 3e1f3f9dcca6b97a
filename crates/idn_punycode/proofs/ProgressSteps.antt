-- The digits of keys, one key after the other, and what the writer has come to after them.
use Rattle.std.proofs.Common.{◌≡◌, ℕ, zero, suc, ◌+◌, ◌<◌, ◌≤◌, List, [], ◌∷◌, ◌++◌, length, get_or, set, take, drop, inl, inr, refl, sym, ap, ◌∙◌, subst, append_assoc, append-nil, length-append, length-take, arith}
use Rattle.std.proofs.lemmas.Bool.{cases_order}
use Rattle.std.proofs.lemmas.List.{take_more, take_all, take-take, take-append-drop, get_or-set_other}
use Rattle.std.proofs.lemmas.Grind.{get_or-set_at}
use Rattle.std.proofs.Math.Seq.{take-append_seam}
use Rattle.std.specs.Str.{IsAscii}
use Rattle.idna.specs.Punycode.{encode}
use Rattle.idna.proofs.PunycodeLemmas.{IsAscii-encode}
use Rattle.idn_punycode.specs.declared.encoding.Progress.{Progress}
use Rattle.idn_punycode.specs.inner.Keys.{HasKeys, HasPlaces}
use Rattle.idn_punycode.specs.inner.Digits.{after_keys, digits_of_keys, all_digits, after_all, end_after, AreOfKeys, AreWritable}
use Rattle.idn_punycode.specs.inner.Progress.{after_basic, after_key, digits_of_key, IsNextKey}
use Rattle.idn_punycode.proofs.EncodingSteps.{Encodes, Encodes-no_basic}
use Rattle.idn_punycode.proofs.OrderSteps.{HasPlaces-none, Turns, Turns-start, Turns-more, Turns-next, Turns-end}

pub after_keys-none : (basic : ℕ) (p : Progress) → after_keys basic p [] ≡ p
unfolding after_keys
after_keys-none basic p = refl

pub digits_of_keys-none : (basic : ℕ) (p : Progress) → digits_of_keys basic p [] ≡ []
unfolding digits_of_keys
digits_of_keys-none basic p = refl

pub after_keys-more : (basic : ℕ) (p : Progress) (keys : List ℕ) (key : ℕ) → after_keys basic p (keys ++ key ∷ []) ≡ after_key basic (after_keys basic p keys) key
unfolding after_keys
after_keys-more basic p [] key = refl
after_keys-more basic p (k ∷ keys) key = after_keys-more basic (after_key basic p k) keys key

pub digits_of_keys-more : (basic : ℕ) (p : Progress) (keys : List ℕ) (key : ℕ) → digits_of_keys basic p (keys ++ key ∷ []) ≡ digits_of_keys basic p keys ++ digits_of_key (after_keys basic p keys) key
unfolding after_keys digits_of_keys
digits_of_keys-more basic p [] key = append-nil (digits_of_key p key)
digits_of_keys-more basic p (k ∷ keys) key =
    ap (λ xs. digits_of_key p k ++ xs) (digits_of_keys-more basic (after_key basic p k) keys key)
    ∙ sym (append_assoc (digits_of_key p k) (digits_of_keys basic (after_key basic p k) keys) (digits_of_key (after_keys basic (after_key basic p k) keys) key))

-- the digits of the first keys come first
digits_of_keys-append : (basic : ℕ) (p : Progress) (keys others : List ℕ) → digits_of_keys basic p (keys ++ others) ≡ digits_of_keys basic p keys ++ digits_of_keys basic (after_keys basic p keys) others
unfolding after_keys digits_of_keys
digits_of_keys-append basic p [] others = refl
digits_of_keys-append basic p (k ∷ keys) others =
    ap (λ xs. digits_of_key p k ++ xs) (digits_of_keys-append basic (after_key basic p k) keys others)
    ∙ sym (append_assoc (digits_of_key p k) (digits_of_keys basic (after_key basic p k) keys) (digits_of_keys basic (after_keys basic (after_key basic p k) keys) others))

all_digits-parts : (n : ℕ) (keys : List ℕ) → all_digits keys ≡ all_digits (take n keys) ++ digits_of_keys 0 (after_all (take n keys)) (drop n keys)
all_digits-parts n keys =
    ap all_digits (sym (take-append-drop n keys)) ∙ digits_of_keys-append 0 (after_basic 0) (take n keys) (drop n keys)

pub end_after-le : (n : ℕ) (keys : List ℕ) → end_after (take n keys) ≤ end_after keys
end_after-le n keys =
    omega (arith, ap length (all_digits-parts n keys), length-append (all_digits (take n keys)) (digits_of_keys 0 (after_all (take n keys)) (drop n keys)))

pub take-digits : (n : ℕ) (keys : List ℕ) → take (length (all_digits (take n keys))) (all_digits keys) ≡ all_digits (take n keys)
take-digits n keys =
    let digits = all_digits (take n keys) in
    ap (take (length digits)) (all_digits-parts n keys) ∙ take-append_seam digits (digits_of_keys 0 (after_all (take n keys)) (drop n keys))

pub all_digits-turn : (n : ℕ) (keys : List ℕ) → n < length keys → all_digits (take (n + 1) keys) ≡ all_digits (take n keys) ++ digits_of_key (after_all (take n keys)) (get_or keys n 0)
all_digits-turn n keys lt = ap all_digits (take_more keys n 0 lt) ∙ digits_of_keys-more 0 (after_basic 0) (take n keys) (get_or keys n 0)

pub after_all-turn : (n : ℕ) (keys : List ℕ) → n < length keys → after_all (take (n + 1) keys) ≡ after_key 0 (after_all (take n keys)) (get_or keys n 0)
after_all-turn n keys lt = ap after_all (take_more keys n 0 lt) ∙ after_keys-more 0 (after_basic 0) (take n keys) (get_or keys n 0)

-- each of the keys is handled
pub after_all-handled : (n : ℕ) (keys : List ℕ) → n ≤ length keys → (after_all (take n keys)).handled ≡ n
after_all-handled zero keys le = ap (λ (p : Progress). p.handled) (after_keys-none 0 (after_basic 0))
after_all-handled (suc n) keys le =
    let e : suc n ≡ n + 1 = omega arith in
    ap (λ k. (after_all (take k keys)).handled) e
    ∙ ap (λ (p : Progress). p.handled) (after_all-turn n keys (omega arith))
    ∙ omega (arith, after_all-handled n keys (omega arith))

-- ---- what is kept for each key

pub AreOfKeys-take : (f : List ℕ → ℕ) (keys xs : List ℕ) (n : ℕ) → AreOfKeys f keys xs → AreOfKeys f (take n keys) xs
AreOfKeys-take f keys xs n h i x lt =
    let short = length-take n keys in
    h i x (omega (arith, short)) ∙ ap f (sym (take-take (i + 1) n keys (omega (arith, short))))

pub AreOfKeys-more : (f : List ℕ → ℕ) (keys xs : List ℕ) (n y : ℕ) → AreOfKeys f (take n keys) xs → n < length keys → n < length xs → y ≡ f (take (n + 1) keys) → AreOfKeys f (take (n + 1) keys) (set xs n y)
AreOfKeys-more f keys xs n y h within room is i x lt =
    let short = length-take (n + 1) keys in
    let before = length-take n keys in
    elim (cases_order i n) [
      | inl last ↦ get_or-set_at xs n i y x last room ∙ is ∙ ap (λ k. f (take (k + 1) keys)) (sym last)
      | inr (inl less) ↦
          get_or-set_other xs n i y x (λ same. omega (arith, same, less))
          ∙ h i x (omega (arith, before))
          ∙ ap f (take-take (i + 1) n keys (omega (arith, less)))
      | inr (inr more) ↦ absurd (omega (arith, short))
    ]
    ∙ ap f (sym (take-take (i + 1) (n + 1) keys (omega (arith, short))))

-- ---- the keys of a label

-- the turn of the key at the place i, where the writer has come to p
abbrev TurnsAt : List ℕ → List ℕ → List ℕ → ℕ → Progress → ℕ → Type 0
TurnsAt label keys code basic p i =
    Turns label keys code basic p.handled p.code_point p.position p.bias i × (basic ≤ p.handled)

module _ (label keys start : List ℕ) (basic : ℕ) (begun : Encodes label start basic basic 128 0 72) (short : length label ≤ 63) (h : HasKeys label keys (length label)) where
  -- after the digits of the keys before it
  turns_at : (i : ℕ) → i ≤ length keys → TurnsAt label keys (start ++ digits_of_keys basic (after_basic basic) (take i keys)) basic (after_keys basic (after_basic basic) (take i keys)) i
  turns_at zero le =
      let p = after_basic basic in
      subst (λ q. TurnsAt label keys (start ++ digits_of_keys basic p []) basic q 0) (sym (after_keys-none basic p))
      (subst (λ code. TurnsAt label keys code basic p 0) (sym (append-nil start) ∙ ap (λ xs. start ++ xs) (sym (digits_of_keys-none basic p)))
      (Turns-start begun short h, omega arith))
  turns_at (suc i) le =
      let p = after_basic basic in
      let t = turns_at i (omega arith) in
      let e : i + 1 ≡ suc i = omega arith in
      let key = get_or keys i 0 in
      let q = after_keys basic p (take i keys) in
      let code = start ++ digits_of_keys basic p (take i keys) in
      let keys_are : take i keys ++ key ∷ [] ≡ take (suc i) keys = sym (take_more keys i 0 (omega arith)) ∙ ap (λ n. take n keys) e in
      let after : after_key basic q key ≡ after_keys basic p (take (suc i) keys) = sym (after_keys-more basic p (take i keys) key) ∙ ap (after_keys basic p) keys_are in
      let longer : code ++ digits_of_key q key ≡ start ++ digits_of_keys basic p (take (suc i) keys) =
      append_assoc start (digits_of_keys basic p (take i keys)) (digits_of_key q key)
      ∙ ap (λ xs. start ++ xs) (sym (digits_of_keys-more basic p (take i keys) key) ∙ ap (digits_of_keys basic p) keys_are) in
      let more : TurnsAt label keys (code ++ digits_of_key q key) basic (after_key basic q key) (i + 1) = (Turns-more t.0 short h (omega arith) key refl t.1, omega (arith, t.1)) in
      subst (λ n. TurnsAt label keys (start ++ digits_of_keys basic p (take (suc i) keys)) basic (after_keys basic p (take (suc i) keys)) n) e
      (subst (λ r. TurnsAt label keys (start ++ digits_of_keys basic p (take (suc i) keys)) basic r (i + 1)) after
      (subst (λ xs. TurnsAt label keys xs basic (after_key basic q key) (i + 1)) longer more))

  -- each key comes next after those before it
  keys_next : (i : ℕ) → i < length keys → IsNextKey (after_keys basic (after_basic basic) (take i keys)) (get_or keys i 0)
  keys_next i lt =
      let t = turns_at i (omega arith) in Turns-next t.0 short h lt (get_or keys i 0) refl t.1

  -- the digits of all keys are what is left of the Punycode
  digits-whole : start ++ digits_of_keys basic (after_basic basic) keys ≡ encode label
  digits-whole =
      let all : length keys ≤ length keys = omega arith in
      ap (λ xs. start ++ digits_of_keys basic (after_basic basic) xs) (sym (take_all (length keys) keys all))
      ∙ Turns-end (turns_at (length keys) all).0 short all

-- a label without a code point of ASCII
module _ {label keys : List ℕ} (short : length label ≤ 63) (h : HasKeys label keys (length label)) (marks : HasPlaces label 0 (length label)) where
  begun : Encodes label [] 0 0 128 0 72
  begun = Encodes-no_basic label [] (sym (HasPlaces-none marks refl)) refl

  pub all_digits-whole : all_digits keys ≡ encode label
  all_digits-whole = digits-whole label keys [] 0 begun short h

  pub AreWritable-keys : AreWritable keys
  AreWritable-keys =
      record { next = keys_next label keys [] 0 begun short h; ascii = subst IsAscii (sym all_digits-whole) (IsAscii-encode label) }
