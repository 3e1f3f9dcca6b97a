-- The text of spans, one after the other.
use Rattle.std.proofs.Common.{◌≡◌, ℕ, ◌+◌, ◌<◌, List, [], ◌∷◌, ◌++◌, length, take, get_or, sym, ap, ◌∙◌, append_assoc, append-nil}
use Rattle.std.proofs.lemmas.List.{take_more}
use Rattle.label_patterns.specs.declared.span.Span.{Span}
use Rattle.ruleset_text.specs.Canonical.{span_text, spans_text}

spans_text-push : (spans : List Span) (s : Span) → spans_text (spans ++ s ∷ []) ≡ spans_text spans ++ 32 ∷ span_text s
spans_text-push [] s = ap (λ t. 32 ∷ t) (append-nil (span_text s))
spans_text-push (r ∷ spans) s = ap (λ t. 32 ∷ (span_text r ++ t)) (spans_text-push spans s) ∙ ap (λ t. 32 ∷ t) (sym (append_assoc (span_text r) (spans_text spans) (32 ∷ span_text s)))

pub spans_text-more : (spans : List Span) (i : ℕ) (d : Span) → i < length spans → spans_text (take (i + 1) spans) ≡ spans_text (take i spans) ++ 32 ∷ span_text (get_or spans i d)
spans_text-more spans i d l = ap spans_text (take_more spans i d l) ∙ spans_text-push (take i spans) (get_or spans i d)

-- the text with a span more
pub spans_text-next : (old before blank after : List ℕ) (spans : List Span) (i : ℕ) (d : Span) → i < length spans → before ≡ old ++ spans_text (take i spans) → blank ≡ before ++ 32 ∷ []
    → after ≡ blank ++ span_text (get_or spans i d) → after ≡ old ++ spans_text (take (i + 1) spans)
spans_text-next old before blank after spans i d l a b e =
    let text = span_text (get_or spans i d) in
    let front = spans_text (take i spans) in
    e ∙ ap (λ t. t ++ text) (b ∙ ap (λ t. t ++ 32 ∷ []) a) ∙ append_assoc (old ++ front) (32 ∷ []) text ∙ append_assoc old front (32 ∷ text)
    ∙ ap (λ t. old ++ t) (sym (spans_text-more spans i d l))
