-- The ends of lines, one byte after another.
use Rattle.std.proofs.Common.{◌≡◌, ℕ, ◌+◌, ◌<◌, Bool, true, false, ◌==◌, ◌&&◌, List, [], ◌∷◌, ◌++◌, length, take, get_or, cond, refl, sym, ap, ◌∙◌, append_assoc}
use Rattle.std.proofs.lemmas.List.{take_more}
use Rattle.xml_text.specs.LineEnds.{line_after, line_feeds, line_feeds_after, return_after}
use Rattle.xml_text.proofs.DocumentRuns.{lines_append}
use Rattle.xml_text.proofs.Runs.{yes, no, decide}
use Rattle.std.proofs.Common.{inl, inr}

-- what a byte is made
abbrev pub fed : Bool → ℕ → List ℕ
fed is_after b = cond (b == 13) (10 ∷ []) (cond (is_after && b == 10) [] (b ∷ []))

pub fed_is : (is_after : Bool) (b : ℕ) (bs : List ℕ) → line_feeds_after is_after (b ∷ bs) ≡ fed is_after b ++ line_feeds_after (b == 13) bs
fed_is is_after b bs =
    let skipped = cond (is_after && b == 10) (line_feeds_after false bs) (b ∷ line_feeds_after false bs) in
    let other = cond (is_after && b == 10) [] (b ∷ []) in
    elim (decide (b == 13)) [
      | inl is ↦
          yes (b == 13) (10 ∷ line_feeds_after true bs) skipped is
          ∙ sym (ap (λ (l : List ℕ). l ++ line_feeds_after (b == 13) bs) (yes (b == 13) (10 ∷ []) other is) ∙ ap (λ (o : Bool). 10 ∷ line_feeds_after o bs) is)
      | inr is ↦
          no (b == 13) (10 ∷ line_feeds_after true bs) skipped is ∙ by (is_after && b == 10)
          ∙ sym (ap (λ (l : List ℕ). l ++ line_feeds_after (b == 13) bs) (no (b == 13) (10 ∷ []) other is) ∙ ap (λ (o : Bool). other ++ line_feeds_after o bs) is)
    ]
  where
    by : (o : Bool) → cond o (line_feeds_after false bs) (b ∷ line_feeds_after false bs) ≡ cond o [] (b ∷ []) ++ line_feeds_after false bs
    by true = refl
    by false = refl

pub feeds_append : (is_after : Bool) (xs ys : List ℕ) → line_feeds_after is_after (xs ++ ys) ≡ line_feeds_after is_after xs ++ line_feeds_after (return_after is_after xs) ys
feeds_append is_after [] ys = refl
feeds_append is_after (x ∷ xs) ys =
    fed_is is_after x (xs ++ ys) ∙ ap (λ (l : List ℕ). fed is_after x ++ l) (feeds_append (x == 13) xs ys)
    ∙ sym (append_assoc (fed is_after x) (line_feeds_after (x == 13) xs) (line_feeds_after (return_after (x == 13) xs) ys))
    ∙ ap (λ (l : List ℕ). l ++ line_feeds_after (return_after (x == 13) xs) ys) (sym (fed_is is_after x xs))

pub return_append : (is_after : Bool) (xs ys : List ℕ) → return_after is_after (xs ++ ys) ≡ return_after (return_after is_after xs) ys
return_append is_after [] ys = refl
return_append is_after (x ∷ xs) ys = return_append (x == 13) xs ys

-- one byte more
pub feeds_more : (text : List ℕ) (i : ℕ) → i < length text → line_feeds (take (i + 1) text) ≡ line_feeds (take i text) ++ line_feeds_after (return_after false (take i text)) (get_or text i 0 ∷ [])
feeds_more text i l = ap line_feeds (take_more text i 0 l) ∙ feeds_append false (take i text) (get_or text i 0 ∷ [])

pub return_more : (text : List ℕ) (i : ℕ) → i < length text → return_after false (take (i + 1) text) ≡ (get_or text i 0 == 13)
return_more text i l = ap (return_after false) (take_more text i 0 l) ∙ return_append false (take i text) (get_or text i 0 ∷ [])

-- the line after one byte more
pub line_more : (text : List ℕ) (i line : ℕ) (r : Bool) → i < length text → line ≡ line_after 1 (line_feeds (take i text)) → r ≡ return_after false (take i text)
    → line_after line (line_feeds_after r (get_or text i 0 ∷ [])) ≡ line_after 1 (line_feeds (take (i + 1) text))
line_more text i line r l is after =
    ap (λ (n : ℕ). line_after n (line_feeds_after r (get_or text i 0 ∷ []))) is ∙ ap (λ (o : Bool). line_after (line_after 1 (line_feeds (take i text))) (line_feeds_after o (get_or text i 0 ∷ []))) after
    ∙ sym (lines_append 1 (line_feeds (take i text)) (line_feeds_after (return_after false (take i text)) (get_or text i 0 ∷ []))) ∙ sym (ap (line_after 1) (feeds_more text i l))
