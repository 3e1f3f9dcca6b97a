-- A text is one document at most, and none where it stops.
use Rattle.std.proofs.Common.{◌≡◌, ℕ, Bool, true, false, List, [], ◌∷◌, ◌++◌, length, take, drop, codes, refl, sym, ap, ◌∙◌, subst, append_assoc, append-nil}
use Rattle.std.specs.List.{list_all}
use Rattle.std.specs.Prelude.{slice_index}
use Rattle.std.proofs.lemmas.List.{append_cancel_left}
use Rattle.std.proofs.Math.Seq.{take-append_seam, drop-append_seam}
use Rattle.xml_text.specs.Documents.{IsBody}
use Rattle.xml_text.specs.Files.{is_ascii, mark_of, without_mark, declares, is_declared_byte, IsDeclaration, IsDeclared, IsFront, IsDocument, IsABody, IsStopAt}
use Rattle.xml_text.specs.LineEnds.{line_feeds, line_feeds_after, return_after, line_after}
use Rattle.xml_text.specs.TagStops.{IsStuck}
use Rattle.xml_text.specs.Tokens.{Token}
use Rattle.xml_text.proofs.DeclarationLemmas.{found}
use Rattle.xml_text.proofs.DocumentBodies.{one_document}
use Rattle.xml_text.proofs.LineEndLemmas.{feeds_append}

index_seam : (xs ys : List ℕ) (y : ℕ) → slice_index (xs ++ y ∷ ys) (length xs) ≡ y
index_seam [] ys y = refl
index_seam (x ∷ xs) ys y = index_seam xs ys y

-- a text begins with one declaration
one_declaration : (ascii : Bool) (text declaration other body more : List ℕ) → declares text ≡ true → text ≡ declaration ++ body → text ≡ other ++ more → IsDeclaration ascii declaration → IsDeclaration ascii other → declaration ≡ other
one_declaration ascii text declaration other body more declared e f is too =
    let x = is.inside in
    let rest = x ++ 63 ∷ 62 ∷ body in
    let begins : text ≡ 60 ∷ 63 ∷ rest = e ∙ ap (λ (d : List ℕ). d ++ body) is.spelled ∙ ap (λ (l : List ℕ). 60 ∷ 63 ∷ l) (append_assoc x (codes "?>") body) in
    let bytes : list_all is_declared_byte (take (length x) rest) ≡ true = ap (list_all is_declared_byte) (take-append_seam x (63 ∷ 62 ∷ body)) ∙ is.bytes in
    let end : is_declared_byte (slice_index rest (length x)) ≡ false = ap is_declared_byte (index_seam x (62 ∷ body) 63) in
    let f = found ascii text rest (length x) other more begins bytes (λ l. end) f too in
    let same : x ≡ too.inside = sym (take-append_seam x (63 ∷ 62 ∷ body)) ∙ f.front in
    is.spelled ∙ ap (λ (l : List ℕ). codes "<?" ++ (l ++ codes "?>")) same ∙ sym too.spelled

same_declared : (ascii b : Bool) (text declaration other body more : List ℕ) → declares text ≡ b → text ≡ declaration ++ body → text ≡ other ++ more → IsDeclared ascii b declaration → IsDeclared ascii b other → declaration ≡ other
same_declared ascii true text declaration other body more declared e f is too = one_declaration ascii text declaration other body more declared e f is too
same_declared ascii false text declaration other body more declared e f is too = is ∙ sym too

without_front : (text mark declaration body : List ℕ) → text ≡ (mark ++ declaration) ++ body → drop (length mark) text ≡ declaration ++ body
without_front text mark declaration body e = ap (λ (t : List ℕ). drop (length mark) t) (e ∙ append_assoc mark declaration body) ∙ drop-append_seam mark (declaration ++ body)

-- what stands before the document itself, and the rest
pub one_front : (text front body other more : List ℕ) → text ≡ front ++ body → text ≡ other ++ more → IsFront text front → IsFront text other → (front ≡ other) × (body ≡ more)
one_front text front body other more e f is too =
    let mark = mark_of text in
    let here = without_front text mark is.0 body (e ∙ ap (λ (l : List ℕ). l ++ body) is.1) in
    let there = without_front text mark too.0 more (f ∙ ap (λ (l : List ℕ). l ++ more) too.1) in
    let declared = same_declared (is_ascii (without_mark text)) (declares (without_mark text)) (without_mark text) is.0 too.0 body more refl here there is.2 too.2 in
    let same : front ≡ other = is.1 ∙ ap (λ (l : List ℕ). mark ++ l) declared ∙ sym too.1 in
    (same, append_cancel_left front body more (sym e ∙ f ∙ ap (λ (l : List ℕ). l ++ more) (sym same)))

pub one_text : (text : List ℕ) (tokens others : List Token) → IsDocument text tokens → IsDocument text others → tokens ≡ others
one_text text tokens others is too =
    let same = one_front text is.front is.body too.front too.body is.spelled too.spelled is.begins too.begins in
    one_document (line_after 1 (line_feeds is.front)) (line_feeds is.body) tokens others is.says
    (subst (λ (b : List ℕ). IsBody (line_after 1 (line_feeds is.front)) (line_feeds b) others) (sym same.1) (subst (λ (f : List ℕ). IsBody (line_after 1 (line_feeds f)) (line_feeds too.body) others) (sym same.0) too.says))

stuck_is_none : (line : ℕ) (before after : List ℕ) (tokens : List Token) → IsStuck (IsABody line) before after → IsBody line (before ++ after) tokens → ⊥
stuck_is_none line before [] tokens stuck is = stuck (tokens, subst (λ (t : List ℕ). IsBody line t tokens) (append-nil before) is)
stuck_is_none line before (b ∷ after) tokens stuck is = stuck (after, (tokens, subst (λ (t : List ℕ). IsBody line t tokens) (sym (append_assoc before (b ∷ []) after)) is))

pub stopped_text : (text : List ℕ) (place : ℕ) (tokens : List Token) → IsStopAt text place → IsDocument text tokens → ⊥
stopped_text text place tokens stop is =
    let same = one_front text is.front is.body stop.front (stop.before ++ stop.after) is.spelled stop.spelled is.begins stop.begins in
    let line = line_after 1 (line_feeds stop.front) in
    let says : IsBody line (line_feeds (stop.before ++ stop.after)) tokens =
    subst (λ (b : List ℕ). IsBody line (line_feeds b) tokens) same.1 (subst (λ (f : List ℕ). IsBody (line_after 1 (line_feeds f)) (line_feeds is.body) tokens) same.0 is.says) in
    stuck_is_none line (line_feeds stop.before) (line_feeds_after (return_after false stop.before) stop.after) tokens stop.stop.stuck
    (subst (λ (t : List ℕ). IsBody line t tokens) (feeds_append false stop.before stop.after) says)
