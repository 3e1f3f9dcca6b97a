-- The declaration with which a text begins, or that there is none.
use Rattle.std.proofs.Common.{◌≡◌, ℕ, ◌+◌, ◌<◌, ◌≤◌, zero, suc, Bool, true, false, ◌==◌, ◌&&◌, List, [], ◌∷◌, ◌++◌, length, take, drop, codes, refl, sym, ap, ◌∙◌, subst, append_assoc, append-nil, arith}
use Rattle.std.specs.Bool.{MatchBool}
use Rattle.std.specs.List.{list_all}
use Rattle.std.specs.Prelude.{slice_index}
use Rattle.std.proofs.lemmas.List.{take-append-drop, length-append, length-take}
use Rattle.std.proofs.Math.Seq.{take-append_seam, drop-append_seam}
use Rattle.xml_text.specs.Files.{is_ascii, is_declared_byte, IsXmlTag, is_xml_tag, IsDeclaration, declares, HasWrongDeclaration}
use Rattle.xml_text.specs.Names.{is_blank}
use Rattle.xml_text.specs.Pieces.{begins_with}
use Rattle.xml_text.specs.TagStops.{IsTagStop}
use Rattle.xml_text.specs.Tags.{Tag, IsTag}
use Rattle.xml_text.proofs.ListLemmas.{and_both, is_byte}
use Rattle.xml_text.proofs.TagReads.{one_tag}

-- ---- what stands between the brackets

abbrev pub tag_text : List ℕ → List ℕ
tag_text inside = codes "<" ++ (inside ++ codes "/>")

pub whole_tag : (ascii : Bool) (inside : List ℕ) (t : Tag) (b : Bool) → IsTag (tag_text inside) t → b ≡ is_xml_tag ascii t → MatchBool b (IsXmlTag ascii inside) (IsXmlTag ascii inside → ⊥)
whole_tag ascii inside t true is e = (t, is, sym e)
whole_tag ascii inside t false is e = λ x.
    let same : t ≡ x.0 = (one_tag t x.0 (tag_text inside) [] (tag_text inside) [] refl is x.1).1 in
    absurd (let h : false ≡ true = e ∙ ap (is_xml_tag ascii) same ∙ x.2 in cc)

pub part_tag : (ascii : Bool) (inside : List ℕ) (n : ℕ) (t : Tag) → IsTag (take n (tag_text inside)) t → (n ≡ length (tag_text inside) → ⊥) → n ≤ length (tag_text inside) → IsXmlTag ascii inside → ⊥
part_tag ascii inside n t is part within x =
    let text = tag_text inside in
    let same : take n text ≡ text = (one_tag t x.0 (take n text) (drop n text) text [] (take-append-drop n text ∙ sym (append-nil text)) is x.1).0 in
    part (omega (arith, length-take n text, ap length same))

pub no_tag : (ascii : Bool) (inside : List ℕ) (n : ℕ) → IsTagStop (take n (tag_text inside)) (drop n (tag_text inside)) → IsXmlTag ascii inside → ⊥
no_tag ascii inside n stop x =
    let text = tag_text inside in
    stop.none text [] (take-append-drop n text ∙ sym (append-nil text)) (x.0, x.1)

-- ---- where it ends

pub inside_ends : (xs ys : List ℕ) (k : ℕ) → list_all is_declared_byte xs ≡ true → list_all is_declared_byte (take k (xs ++ 63 ∷ ys)) ≡ true
    → (k < length (xs ++ 63 ∷ ys) → is_declared_byte (slice_index (xs ++ 63 ∷ ys) k) ≡ false) → k ≡ length xs
inside_ends [] ys zero all taken end = refl
inside_ends [] ys (suc k) all taken end = absurd (cc)
inside_ends (x ∷ xs) ys zero all taken end =
    let is = (and_both (is_declared_byte x) (list_all is_declared_byte xs) all).0 in
    absurd (let h : is_declared_byte x ≡ false = end (omega arith) in let same : true ≡ false = sym is ∙ h in cc)
inside_ends (x ∷ xs) ys (suc k) all taken end =
    let rest = (and_both (is_declared_byte x) (list_all is_declared_byte xs) all).1 in
    let more = (and_both (is_declared_byte x) (list_all is_declared_byte (take k (xs ++ 63 ∷ ys))) taken).1 in
    let same : k ≡ length xs = inside_ends xs ys k rest more (λ l. end (omega arith)) in
    omega arith

pub two_bytes : (text : List ℕ) → declares text ≡ true → text ≡ 60 ∷ 63 ∷ drop 2 text
two_bytes [] e = absurd (cc)
two_bytes (x ∷ []) e = absurd (let h = (and_both (60 == x && false) (is_blank (slice_index (x ∷ []) 5)) e).0 in let i = (and_both (60 == x) false h).1 in cc)
two_bytes (x ∷ y ∷ text) e =
    let h = (and_both (60 == x && (63 == y && begins_with (codes "xml") text)) (is_blank (slice_index (x ∷ y ∷ text) 5)) e).0 in
    let i = and_both (60 == x) (63 == y && begins_with (codes "xml") text) h in
    let j = and_both (63 == y) (begins_with (codes "xml") text) i.1 in
    sym (ap (λ (a : ℕ). a ∷ 63 ∷ text) (is_byte 60 x i.0) ∙ ap (λ (b : ℕ). x ∷ b ∷ text) (is_byte 63 y j.0))

-- a declaration with which the text begins ends where this does
pub record Found (inside rest : List ℕ) (k : ℕ) (body : List ℕ) : Type 0 where
  pub front : take k rest ≡ inside
  pub back : drop k rest ≡ 63 ∷ 62 ∷ body

pub found : (ascii : Bool) (text rest : List ℕ) (k : ℕ) (declaration body : List ℕ) → text ≡ 60 ∷ 63 ∷ rest → list_all is_declared_byte (take k rest) ≡ true
    → (k < length rest → is_declared_byte (slice_index rest k) ≡ false) → text ≡ declaration ++ body → (is : IsDeclaration ascii declaration) → Found is.inside rest k body
found ascii text rest k declaration body begins bytes end e is =
    let x = is.inside in
    let spelled : 60 ∷ 63 ∷ rest ≡ 60 ∷ 63 ∷ (x ++ codes "?>") ++ body = sym begins ∙ e ∙ ap (λ (d : List ℕ). d ++ body) is.spelled in
    let rest_is : rest ≡ x ++ 63 ∷ 62 ∷ body = (let h : rest ≡ (x ++ codes "?>") ++ body = cc in h ∙ append_assoc x (codes "?>") body) in
    let k_is : k ≡ length x =
    inside_ends x (62 ∷ body) k is.bytes (subst (λ (r : List ℕ). list_all is_declared_byte (take k r) ≡ true) rest_is bytes)
    (subst (λ (r : List ℕ). k < length r → is_declared_byte (slice_index r k) ≡ false) rest_is end) in
    record {
      front = ap (λ (i : ℕ). take i rest) k_is ∙ ap (λ (r : List ℕ). take (length x) r) rest_is ∙ take-append_seam x (63 ∷ 62 ∷ body);
      back = ap (λ (i : ℕ). drop i rest) k_is ∙ ap (λ (r : List ℕ). drop (length x) r) rest_is ∙ drop-append_seam x (63 ∷ 62 ∷ body);
    }

-- what follows isn't the end of a declaration
pub wrong_end : (text rest : List ℕ) (k : ℕ) → declares text ≡ true → text ≡ 60 ∷ 63 ∷ rest → list_all is_declared_byte (take k rest) ≡ true
    → (k < length rest → is_declared_byte (slice_index rest k) ≡ false) → begins_with (codes "?>") (drop k rest) ≡ false → HasWrongDeclaration text
wrong_end text rest k declared begins bytes end none = (
  declared,
  λ declaration body e is.
      let f = found (is_ascii text) text rest k declaration body begins bytes end e is in
      absurd (let h : true ≡ false = sym (ap (begins_with (codes "?>")) f.back) ∙ none in cc),
)

-- what stands before that isn't a declaration's
pub wrong_inside : (text rest : List ℕ) (k : ℕ) → declares text ≡ true → text ≡ 60 ∷ 63 ∷ rest → list_all is_declared_byte (take k rest) ≡ true
    → (k < length rest → is_declared_byte (slice_index rest k) ≡ false) → (IsXmlTag (is_ascii text) (take k rest) → ⊥) → HasWrongDeclaration text
wrong_inside text rest k declared begins bytes end none = (
  declared,
  λ declaration body e is.
      let f = found (is_ascii text) text rest k declaration body begins bytes end e is in
      none (subst (IsXmlTag (is_ascii text)) (sym f.front) is.tag),
)

begins_two : (text : List ℕ) → begins_with (codes "?>") text ≡ true → text ≡ codes "?>" ++ drop 2 text
begins_two [] e = absurd (cc)
begins_two (x ∷ []) e = absurd (let h = (and_both (63 == x) false e).1 in cc)
begins_two (x ∷ y ∷ text) e =
    let i = and_both (63 == x) (62 == y && true) e in
    let j = and_both (62 == y) true i.1 in
    sym (ap (λ (a : ℕ). a ∷ 62 ∷ text) (is_byte 63 x i.0) ∙ ap (λ (b : ℕ). x ∷ b ∷ text) (is_byte 62 y j.0))

pub right_declaration : (ascii : Bool) (text rest : List ℕ) (k n : ℕ) → text ≡ 60 ∷ 63 ∷ rest → list_all is_declared_byte (take k rest) ≡ true → k ≤ length rest → begins_with (codes "?>") (drop k rest) ≡ true
    → IsXmlTag ascii (take k rest) → n ≡ length (take k rest) + 4 → (n ≤ length text) × IsDeclaration ascii (take n text)
right_declaration ascii text rest k n begins bytes within end is n_is =
    let inside = take k rest in
    let last = drop 2 (drop k rest) in
    let ends = begins_two (drop k rest) end in
    let front = codes "<?" ++ (inside ++ codes "?>") in
    let rest_is : rest ≡ inside ++ (codes "?>" ++ last) = sym (take-append-drop k rest) ∙ ap (λ (l : List ℕ). inside ++ l) ends in
    let whole : text ≡ front ++ last = begins ∙ ap (λ (l : List ℕ). 60 ∷ 63 ∷ l) (rest_is ∙ sym (append_assoc inside (codes "?>") last)) in
    let long : n ≡ length front = omega (arith, length-append inside (codes "?>")) in
    let taken : take n text ≡ front = ap (λ (i : ℕ). take i text) long ∙ ap (λ (t : List ℕ). take (length front) t) whole ∙ take-append_seam front last in (
      omega (arith, ap length whole, length-append front last),
      record { inside = inside; spelled = taken; bytes = bytes; tag = is },
    )
