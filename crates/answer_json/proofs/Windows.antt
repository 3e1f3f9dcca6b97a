-- Texts of which each byte stands as it is, window by window.
use Rattle.std.proofs.Common.{◌≡◌, ℕ, ◌+◌, ◌-◌, ◌≤◌, Bool, true, false, ◌&&◌, List, [], ◌++◌, length, take, drop, refl, sym, ap, ap₂, ◌∙◌, append-nil, arith, length-drop}
use Rattle.std.proofs.lemmas.List.{drop-append-le, drop_all, length-take-le, take-append-drop, take-take}
use Rattle.std.proofs.lemmas.Slice.{take-put_mid}
use borrow.Rule.Slice.PartMut.{put_mid}
use Rattle.std.proofs.lemmas.List.Folds.{list_all-append}
use Rattle.std.proofs.Math.Seq.{take-add, take-length}
use Rattle.answer_json.specs.inner.Texts.{is_plain, is_plain_byte}

plain_append : (a b : List ℕ) → is_plain (a ++ b) ≡ (is_plain a && is_plain b)
plain_append a b = list_all-append is_plain_byte a b

plain_parts : (text : List ℕ) (i : ℕ) → is_plain text ≡ (is_plain (take i text) && is_plain (drop i text))
plain_parts text i = ap is_plain (sym (take-append-drop i text)) ∙ plain_append (take i text) (drop i text)

-- the first bytes of a text and one more window
pub plain_more : (text : List ℕ) (i j : ℕ) → i ≤ j → (is_plain (take i text) && is_plain (take (j - i) (drop i text))) ≡ is_plain (take j text)
plain_more text i j order =
    let e : i + (j - i) ≡ j = omega arith in
    sym (ap is_plain (take-add i (j - i) text) ∙ plain_append (take i text) (take (j - i) (drop i text))) ∙ ap (λ n. is_plain (take n text)) e

shared_part : (a b d : Bool) → ((a && b) && (b && d)) ≡ ((a && b) && d)
shared_part true true d = refl
shared_part true false d = refl
shared_part false b d = refl

-- the first bytes and the last, which may be shared
pub plain_ends : (text : List ℕ) (i j : ℕ) → j ≤ i → i ≤ length text → (is_plain (take i text) && is_plain (drop j text)) ≡ is_plain text
plain_ends text i j shared within =
    let front = take i text in
    let long : j ≤ length front = rw (length-take-le i text within) shared in
    let last : drop j text ≡ drop j front ++ drop i text = ap (drop j) (sym (take-append-drop i text)) ∙ drop-append-le j front (drop i text) long in
    let a = is_plain (take j front) in
    let b = is_plain (drop j front) in
    let d = is_plain (drop i text) in
    ap₂ (λ (x y : Bool). x && y) (plain_parts front j) (ap is_plain last ∙ plain_append (drop j front) (drop i text))
    ∙ shared_part a b d
    ∙ sym (plain_parts text i ∙ ap (λ x. x && d) (plain_parts front j))

-- a window up to the end
pub window_to_end : (text : List ℕ) (j : ℕ) → take (length text - j) (drop j text) ≡ drop j text
window_to_end text j = ap (λ n. take n (drop j text)) (sym (length-drop j text)) ∙ take-length (drop j text)

-- ---- copies

-- the first bytes are copied, and then one more window
pub copied_more : (text copy window : List ℕ) (i j : ℕ) → i ≤ j → j ≤ length text → length copy ≡ length text → take i copy ≡ take i text → window ≡ take (j - i) (drop i text)
    → take j (put_mid i (j - i) copy window) ≡ take j text
copied_more text copy window i j order within same first next =
    let e : i + (j - i) ≡ j = omega arith in
    let long : length window ≡ j - i = ap length next ∙ length-take-le (j - i) (drop i text) (omega (arith, length-drop i text)) in
    take-put_mid i (j - i) copy window j (omega arith) (omega arith)
    ∙ ap₂ (λ (a b : List ℕ). a ++ b) first next ∙ sym (take-add i (j - i) text) ∙ ap (λ n. take n text) e

-- and those up to the end, of which some may have been copied
pub copied_all : (text copy window : List ℕ) (i j : ℕ) → j ≤ i → i ≤ length text → length copy ≡ length text → take i copy ≡ take i text → window ≡ take (length text - j) (drop j text)
    → put_mid j (length copy - j) copy window ≡ text
copied_all text copy window i j shared within same first last =
    let front : take j copy ≡ take j text = sym (take-take j i copy shared) ∙ ap (take j) first ∙ take-take j i text shared in
    let none : drop (length copy - j) (drop j copy) ≡ [] = drop_all (length copy - j) (drop j copy) (omega (arith, length-drop j copy)) in
    ap₂ (λ (a b : List ℕ). a ++ (window ++ b)) front none
    ∙ ap (λ (b : List ℕ). take j text ++ b) (append-nil window ∙ last ∙ window_to_end text j)
    ∙ take-append-drop j text
