-- Pieces that nest are elements, and elements are pieces that nest.
use Rattle.std.proofs.Common.{◌≡◌, ◌⊎◌, inl, inr, ℕ, ◌+◌, ◌<◌, ◌≤◌, zero, suc, Bool, true, false, ◌==◌, ◌&&◌, ◌||◌, not, nat_lt, List, [], ◌∷◌, ◌++◌, length, map, refl, sym, ap, ◌∙◌, subst, append_assoc, append-nil, arith}
use Rattle.std.specs.List.{flat_map, list_all}
use Rattle.std.proofs.lemmas.Bool.Decides.{nat_tests}
use Rattle.std.proofs.lemmas.List.{length-append}
use Rattle.xml_text.specs.declared.attribute.TagKind.{TagKind}
use Rattle.xml_text.specs.declared.attribute.TagKind.TheVariants.{Start, Empty}
use Rattle.xml_text.specs.declared.repeats.Repeats.{Repeats}
use Rattle.xml_text.specs.declared.repeats.Repeats.TheVariants as repeats
use Rattle.xml_text.specs.Documents.{Written, texts, ArePieces, is_plain, AreItems, IsContent, IsElement, is_misc, AreMisc, data_byte, tokens_at, said_after, tokens_of}
use Rattle.xml_text.specs.LineEnds.{line_after}
use Rattle.xml_text.specs.Pieces
use Rattle.xml_text.specs.Pieces.{Piece, has, IsPiece}
use Rattle.xml_text.specs.Tags.{Tag}
use Rattle.xml_text.specs.Tokens.{Token}
use Rattle.xml_text.specs.inner.DocumentSteps.{is_two, times, may_open, names_with, has_none}
use Rattle.xml_text.proofs.ListLemmas.{and_both, both_and}
use Rattle.xml_text.proofs.Words.{brackets, or_false, ends_section}
use Rattle.xml_text.proofs.DocumentStates.{Core, Fits, names_after, rooted_after, tokens_after, said_in, moved, next, EndsNothing, Path, core_after}
use Rattle.xml_text.proofs.DocumentRuns.{lines_append}

-- ---- a path is pieces that nest and in which no ']]>' ends

abbrev pub Nest : Bool → List (List ℕ) → List Written → Type 0
Nest rooted names [] = Unit {0}
Nest rooted names (w ∷ ws) = Fits rooted names w.piece × Nest (rooted_after rooted w.piece) (names_after names w.piece) ws

abbrev pub AreEnds : Repeats → List Written → Type 0
AreEnds k [] = Unit {0}
AreEnds k (w ∷ ws) = EndsNothing k w.piece × AreEnds (next k w.piece) ws

pub path_of : (c : Core) (k : Repeats) (ws : List Written) → ArePieces ws → Nest c.rooted c.names ws → AreEnds k ws → Path c k ws
path_of c k [] pieces nest ends = tt
path_of c k (w ∷ ws) pieces nest ends = record { piece = pieces.0; fits = nest.0; ends = ends.0; rest = path_of (moved c w) (next k w.piece) ws pieces.1 nest.1 ends.1 }

pub pieces_in : (c : Core) (k : Repeats) (ws : List Written) → Path c k ws → ArePieces ws
pieces_in c k [] path = tt
pieces_in c k (w ∷ ws) path = (path.piece, pieces_in (moved c w) (next k w.piece) ws path.rest)

pub nest_in : (c : Core) (k : Repeats) (ws : List Written) → Path c k ws → Nest c.rooted c.names ws
nest_in c k [] path = tt
nest_in c k (w ∷ ws) path = (path.fits, nest_in (moved c w) (next k w.piece) ws path.rest)

pub ends_in : (c : Core) (k : Repeats) (ws : List Written) → Path c k ws → AreEnds k ws
ends_in c k [] path = tt
ends_in c k (w ∷ ws) path = (path.ends, ends_in (moved c w) (next k w.piece) ws path.rest)

abbrev bytes : List Written → List ℕ
bytes ws = map (λ w. data_byte w.piece) ws

pub no_ends : (k : Repeats) (ws : List Written) → has ends_section (times k 93 ++ bytes ws) ≡ false → AreEnds k ws
no_ends k [] h = tt
no_ends k (w ∷ ws) h =
    let both = or_false (is_two k && data_byte w.piece == 62) (has ends_section (times (next k w.piece) 93 ++ bytes ws)) (sym (brackets k (data_byte w.piece) (bytes ws)) ∙ h) in
    (both.0, no_ends (next k w.piece) ws both.1)

pub none_ends : (k : Repeats) (ws : List Written) → AreEnds k ws → has ends_section (times k 93 ++ bytes ws) ≡ false
none_ends repeats.Zero [] ends = refl
none_ends repeats.One [] ends = refl
none_ends repeats.Two [] ends = refl
none_ends k (w ∷ ws) ends = brackets k (data_byte w.piece) (bytes ws) ∙ ap (λ (o : Bool). o || has ends_section (times (next k w.piece) 93 ++ bytes ws)) ends.0 ∙ none_ends (next k w.piece) ws ends.1

-- ---- names at the end

abbrev pub names_end : List (List ℕ) → List Written → List (List ℕ)
names_end names [] = names
names_end names (w ∷ ws) = names_end (names_after names w.piece) ws

abbrev pub rooted_end : Bool → List Written → Bool
rooted_end rooted [] = rooted
rooted_end rooted (w ∷ ws) = rooted_end (rooted_after rooted w.piece) ws

pub core_names : (c : Core) (ws : List Written) → (core_after c ws).names ≡ names_end c.names ws
core_names c [] = refl
core_names c (w ∷ ws) = core_names (moved c w) ws

pub core_rooted : (c : Core) (ws : List Written) → (core_after c ws).rooted ≡ rooted_end c.rooted ws
core_rooted c [] = refl
core_rooted c (w ∷ ws) = core_rooted (moved c w) ws

pub core_append : (c : Core) (xs ys : List Written) → core_after c (xs ++ ys) ≡ core_after (core_after c xs) ys
core_append c [] ys = refl
core_append c (x ∷ xs) ys = core_append (moved c x) xs ys

pub names_append : (names : List (List ℕ)) (xs ys : List Written) → names_end names (xs ++ ys) ≡ names_end (names_end names xs) ys
names_append names [] ys = refl
names_append names (x ∷ xs) ys = names_append (names_after names x.piece) xs ys

pub rooted_append : (rooted : Bool) (xs ys : List Written) → rooted_end rooted (xs ++ ys) ≡ rooted_end (rooted_end rooted xs) ys
rooted_append rooted [] ys = refl
rooted_append rooted (x ∷ xs) ys = rooted_append (rooted_after rooted x.piece) xs ys

pub nest_append : (rooted : Bool) (names : List (List ℕ)) (xs ys : List Written) → Nest rooted names xs → Nest (rooted_end rooted xs) (names_end names xs) ys → Nest rooted names (xs ++ ys)
nest_append rooted names [] ys left right = right
nest_append rooted names (x ∷ xs) ys left right = (left.0, nest_append (rooted_after rooted x.piece) (names_after names x.piece) xs ys left.1 right)

-- ---- each piece is in an element, or opens one

abbrev IsWithin : List (List ℕ) → Piece → Type 0
IsWithin names piece = (has_none names ≡ false) ⊎ ((t : Tag) × (piece ≡ Pieces.Opened t))

abbrev pub Inside : List (List ℕ) → List Written → Type 0
Inside names [] = Unit {0}
Inside names (w ∷ ws) = IsWithin names w.piece × Inside (names_after names w.piece) ws

inside_append : (names : List (List ℕ)) (xs ys : List Written) → Inside names xs → Inside (names_end names xs) ys → Inside names (xs ++ ys)
inside_append names [] ys left right = right
inside_append names (x ∷ xs) ys left right = (left.0, inside_append (names_after names x.piece) xs ys left.1 right)

-- ---- elements nest

pub record Nested (rooted : Bool) (names : List (List ℕ)) (ws : List Written) : Type 0 where
  pub nest : Nest rooted names ws
  pub inside : Inside names ws
  pub same : names_end names ws ≡ names
  pub root : rooted_end rooted ws ≡ true

nested_append : (names : List (List ℕ)) (xs ys : List Written) → Nested true names xs → Nested true names ys → Nested true names (xs ++ ys)
nested_append names xs ys a b = record {
  nest = nest_append true names xs ys a.nest (subst (λ (r : Bool). Nest r (names_end names xs) ys) (sym a.root) (subst (λ (n : List (List ℕ)). Nest true n ys) (sym a.same) b.nest));
  inside = inside_append names xs ys a.inside (subst (λ (n : List (List ℕ)). Inside n ys) (sym a.same) b.inside);
  same = names_append names xs ys ∙ ap (λ (n : List (List ℕ)). names_end n ys) a.same ∙ b.same;
  root = rooted_append true xs ys ∙ ap (λ (r : Bool). rooted_end r ys) a.root ∙ b.root;
}

-- one piece that leaves the names as they are
one_nested : (rooted : Bool) (names : List (List ℕ)) (w : Written) (p : Piece) → w.piece ≡ p → Fits rooted names p → IsWithin names p → names_after names p ≡ names → rooted_after rooted p ≡ true
    → Nested rooted names (w ∷ [])
one_nested rooted names w p e fits within same root = record {
  nest = (subst (λ (q : Piece). Fits rooted names q) (sym e) fits, tt);
  inside = (subst (λ (q : Piece). IsWithin names q) (sym e) within, tt);
  same = ap (λ (q : Piece). names_after names q) e ∙ same;
  root = ap (λ (q : Piece). rooted_after rooted q) e ∙ root;
}

plain_nested : (n : List ℕ) (ns : List (List ℕ)) (w : Written) → is_plain w.piece ≡ true → Nested true (n ∷ ns) (w ∷ [])
plain_nested n ns w is = by w.piece refl is
  where
    by : (p : Piece) → w.piece ≡ p → is_plain p ≡ true → Nested true (n ∷ ns) (w ∷ [])
    by (Pieces.Character part) e is = one_nested true (n ∷ ns) w (Pieces.Character part) e tt (inl refl) refl refl
    by (Pieces.Section body) e is = one_nested true (n ∷ ns) w (Pieces.Section body) e tt (inl refl) refl refl
    by Pieces.Comment e is = one_nested true (n ∷ ns) w Pieces.Comment e tt (inl refl) refl refl
    by Pieces.Instruction e is = one_nested true (n ∷ ns) w Pieces.Instruction e tt (inl refl) refl refl
    by (Pieces.Opened t) e is = absurd (cc)
    by (Pieces.Closed name) e is = absurd (cc)

items_nested : (n : List ℕ) (ns : List (List ℕ)) (Element : List Written → Type 0) → ((ws : List Written) → Element ws → Nested true (n ∷ ns) ws)
    → (items : List (List Written)) → AreItems Element items → Nested true (n ∷ ns) (flat_map (λ i. i) items)
items_nested n ns Element f [] are = record { nest = tt; inside = tt; same = refl; root = refl }
items_nested n ns Element f (i ∷ items) are = nested_append (n ∷ ns) i (flat_map (λ x. x) items) (by are.0) (items_nested n ns Element f items are.1)
  where
    by : ((w : Written) × (i ≡ w ∷ []) × (is_plain w.piece ≡ true)) ⊎ Element i → Nested true (n ∷ ns) i
    by (inl p) = subst (λ (x : List Written). Nested true (n ∷ ns) x) (sym p.1) (plain_nested n ns p.0 p.2)
    by (inr e) = f i e

-- there is room for so many levels, and the root element is one
pub record Room (levels : ℕ) (rooted : Bool) (names : List (List ℕ)) : Type 0 where
  pub deep : length names + levels ≤ 64
  pub first : has_none names ≡ true → rooted ≡ false

may : (levels : ℕ) (rooted : Bool) (names : List (List ℕ)) → Room (suc levels) rooted names → may_open rooted names ≡ true
may levels rooted [] room = ap (λ (r : Bool). not r) (room.first refl)
may levels rooted (n ∷ ns) room = less (length (n ∷ ns)) (let h : length (n ∷ ns) + suc levels ≤ 64 = room.deep in omega arith)
  where
    less : (m : ℕ) → m < 64 → nat_lt m 64 ≡ true
    less m h = grind (arith, nat_tests)

pub element_nested : (levels : ℕ) (rooted : Bool) (names : List (List ℕ)) (ws : List Written) → Room levels rooted names → IsElement levels ws → Nested rooted names ws
unfolding IsElement
element_nested zero rooted names ws room is = absurd is
element_nested (suc levels) rooted names ws room (inl is) =
    subst (λ (x : List Written). Nested rooted names x) (sym is.is)
    (one_nested rooted names is.only (Pieces.Opened is.tag) is.opens (may levels rooted names room) (inr (is.tag, refl)) (ap (λ (k : TagKind). names_with is.tag.name names k) is.empties) refl)
element_nested (suc levels) rooted names ws room (inr is) =
    let t = is.tag in
    let items = is.inside in
    let deeper : length (t.name ∷ names) + levels ≤ 64 = (let h : length names + suc levels ≤ 64 = room.deep in omega arith) in
    let inner : Nested true (t.name ∷ names) is.content =
    subst (λ (x : List Written). Nested true (t.name ∷ names) x) (sym items.1)
    (items_nested t.name names (IsElement levels) (λ i e. element_nested levels true (t.name ∷ names) i (record { deep = deeper; first = λ h. absurd (cc) }) e) items.0 items.2) in
    let names_opened : names_after names is.open_.piece ≡ t.name ∷ names = ap (λ (p : Piece). names_after names p) is.opens ∙ ap (λ (k : TagKind). names_with t.name names k) is.starts in
    let rooted_opened : rooted_after rooted is.open_.piece ≡ true = ap (λ (p : Piece). rooted_after rooted p) is.opens in
    let last = is.close ∷ [] in
    let last_nest : Nest true (t.name ∷ names) last = (subst (λ (p : Piece). Fits true (t.name ∷ names) p) (sym is.closes) refl, tt) in
    let last_inside : Inside (t.name ∷ names) last = (inl refl, tt) in
    let last_names : names_end (t.name ∷ names) last ≡ names = ap (λ (p : Piece). names_after (t.name ∷ names) p) is.closes in
    let last_rooted : rooted_end true last ≡ true = ap (λ (p : Piece). rooted_after true p) is.closes in
    let body = is.content ++ last in
    let body_nest : Nest true (t.name ∷ names) body =
    nest_append true (t.name ∷ names) is.content last inner.nest (subst (λ (r : Bool). Nest r (names_end (t.name ∷ names) is.content) last) (sym inner.root) (subst (λ (n : List (List ℕ)). Nest true n last) (sym inner.same) last_nest)) in
    let body_inside : Inside (t.name ∷ names) body = inside_append (t.name ∷ names) is.content last inner.inside (subst (λ (n : List (List ℕ)). Inside n last) (sym inner.same) last_inside) in
    let body_names : names_end (t.name ∷ names) body ≡ names = names_append (t.name ∷ names) is.content last ∙ ap (λ (n : List (List ℕ)). names_end n last) inner.same ∙ last_names in
    let body_rooted : rooted_end true body ≡ true = rooted_append true is.content last ∙ ap (λ (r : Bool). rooted_end r last) inner.root ∙ last_rooted in
    subst (λ (x : List Written). Nested rooted names x) (sym is.is) (record {
      nest = (
        subst (λ (p : Piece). Fits rooted names p) (sym is.opens) (may levels rooted names room),
        subst (λ (r : Bool). Nest r (names_after names is.open_.piece) body) (sym rooted_opened) (subst (λ (n : List (List ℕ)). Nest true n body) (sym names_opened) body_nest),
      );
      inside = (inr (t, is.opens), subst (λ (n : List (List ℕ)). Inside n body) (sym names_opened) body_inside);
      same = ap (λ (n : List (List ℕ)). names_end n body) names_opened ∙ body_names;
      root = ap (λ (r : Bool). rooted_end r body) rooted_opened ∙ body_rooted;
    })

-- ---- what nests is elements

-- the innermost element is read to its end
record Split (n : List ℕ) (ns : List (List ℕ)) (levels : ℕ) (ws : List Written) : Type 0 where
  content : List Written
  close : Written
  rest : List Written
  is : ws ≡ content ++ close ∷ rest
  inside : IsContent (IsElement levels) content
  closes : close.piece ≡ Pieces.Closed n
  nest : Nest true ns rest
  ended : names_end ns rest ≡ []
  shorter : length rest < length ws

-- one item before what is split
split_after : (n : List ℕ) (ns : List (List ℕ)) (levels : ℕ) (item ws : List Written) → ((w : Written) × (item ≡ w ∷ []) × (is_plain w.piece ≡ true)) ⊎ IsElement levels item
    → Split n ns levels ws → Split n ns levels (item ++ ws)
split_after n ns levels item ws one s = record {
  content = item ++ s.content;
  close = s.close;
  rest = s.rest;
  is = ap (λ (l : List Written). item ++ l) s.is ∙ sym (append_assoc item s.content (s.close ∷ s.rest));
  inside = (item ∷ s.inside.0, ap (λ (l : List Written). item ++ l) s.inside.1, (one, s.inside.2));
  closes = s.closes;
  nest = s.nest;
  ended = s.ended;
  shorter = (let h : length s.rest < length ws = s.shorter in omega (arith, length-append item ws));
}

room_left : (m levels : ℕ) → nat_lt m 64 ≡ true → m + levels ≡ 64 → (l : ℕ) × (levels ≡ suc l)
room_left m zero h e = absurd (let less : m < 64 = grind (arith, nat_tests) in omega arith)
room_left m (suc l) h e = (l, refl)

closes_in : (fuel : ℕ) (n : List ℕ) (ns : List (List ℕ)) (levels : ℕ) (ws : List Written) → length ws < fuel → length (n ∷ ns) + levels ≡ 64 → Nest true (n ∷ ns) ws → names_end (n ∷ ns) ws ≡ [] → Split n ns levels ws
unfolding IsElement
closes_in zero n ns levels ws short deep nest ended = absurd (omega arith)
closes_in (suc fuel) n ns levels [] short deep nest ended = absurd (cc)
closes_in (suc fuel) n ns levels (w ∷ ws) short deep nest ended =
    by w.piece refl nest.0 nest.1 ended (λ m ms l xs a b c d. closes_in fuel m ms l xs a b c d)
  where
    by : (p : Piece) → w.piece ≡ p → Fits true (n ∷ ns) p → Nest (rooted_after true p) (names_after (n ∷ ns) p) ws → names_end (names_after (n ∷ ns) p) ws ≡ []
        → ((m : List ℕ) (ms : List (List ℕ)) (l : ℕ) (xs : List Written) → length xs < fuel → length (m ∷ ms) + l ≡ 64 → Nest true (m ∷ ms) xs → names_end (m ∷ ms) xs ≡ [] → Split m ms l xs)
        → Split n ns levels (w ∷ ws)
    by (Pieces.Character part) e fits nest ended rec = split_after n ns levels (w ∷ []) ws (inl (w, refl, ap (λ (p : Piece). is_plain p) e)) (rec n ns levels ws (omega arith) deep nest ended)
    by (Pieces.Section body) e fits nest ended rec = split_after n ns levels (w ∷ []) ws (inl (w, refl, ap (λ (p : Piece). is_plain p) e)) (rec n ns levels ws (omega arith) deep nest ended)
    by Pieces.Comment e fits nest ended rec = split_after n ns levels (w ∷ []) ws (inl (w, refl, ap (λ (p : Piece). is_plain p) e)) (rec n ns levels ws (omega arith) deep nest ended)
    by Pieces.Instruction e fits nest ended rec = split_after n ns levels (w ∷ []) ws (inl (w, refl, ap (λ (p : Piece). is_plain p) e)) (rec n ns levels ws (omega arith) deep nest ended)
    by (Pieces.Closed name) e fits nest ended rec = record {
      content = [];
      close = w;
      rest = ws;
      is = refl;
      inside = ([], refl, tt);
      closes = e ∙ ap (λ (m : List ℕ). Pieces.Closed m) fits;
      nest = nest;
      ended = ended;
      shorter = omega arith;
    }
    by (Pieces.Opened t) e fits nest ended rec = opened t.kind refl
      where
        opened : (kind : TagKind) → t.kind ≡ kind → Split n ns levels (w ∷ ws)
        opened Empty kind =
            let same : names_after (n ∷ ns) (Pieces.Opened t) ≡ n ∷ ns = ap (λ (k : TagKind). names_with t.name (n ∷ ns) k) kind in
            let room = room_left (length (n ∷ ns)) levels fits deep in
            let only : IsElement levels (w ∷ []) = subst (λ (l : ℕ). IsElement l (w ∷ [])) (sym room.1) (inl (record { only = w; tag = t; is = refl; opens = e; empties = kind })) in
            split_after n ns levels (w ∷ []) ws (inr only) (rec n ns levels ws (omega arith) deep (subst (λ (names : List (List ℕ)). Nest true names ws) same nest) (sym (ap (λ (names : List (List ℕ)). names_end names ws) same) ∙ ended))
        opened Start kind =
            let more : names_after (n ∷ ns) (Pieces.Opened t) ≡ t.name ∷ n ∷ ns = ap (λ (k : TagKind). names_with t.name (n ∷ ns) k) kind in
            let room = room_left (length (n ∷ ns)) levels fits deep in
            let deeper : length (t.name ∷ n ∷ ns) + room.0 ≡ 64 = (let h : length (n ∷ ns) + suc room.0 ≡ 64 = subst (λ (l : ℕ). length (n ∷ ns) + l ≡ 64) room.1 deep in omega arith) in
            let inner = rec t.name (n ∷ ns) room.0 ws (omega arith) deeper (subst (λ (names : List (List ℕ)). Nest true names ws) more nest) (sym (ap (λ (names : List (List ℕ)). names_end names ws) more) ∙ ended) in
            let item = w ∷ inner.content ++ inner.close ∷ [] in
            let full : IsElement levels item =
            subst (λ (l : ℕ). IsElement l item) (sym room.1) (inr (record { open_ = w; content = inner.content; close = inner.close; tag = t; is = refl; opens = e; starts = kind; inside = inner.inside; closes = inner.closes })) in
            let rest = rec n ns levels inner.rest (let h : length inner.rest < length ws = inner.shorter in omega arith) deep inner.nest inner.ended in
            let whole : w ∷ ws ≡ item ++ inner.rest = ap (λ (l : List Written). w ∷ l) (inner.is ∙ sym (append_assoc inner.content (inner.close ∷ []) inner.rest)) in
            subst (λ (l : List Written). Split n ns levels l) (sym whole) (split_after n ns levels item inner.rest (inr full) rest)

closes : (n : List ℕ) (ns : List (List ℕ)) (levels : ℕ) (ws : List Written) → length (n ∷ ns) + levels ≡ 64 → Nest true (n ∷ ns) ws → names_end (n ∷ ns) ws ≡ [] → Split n ns levels ws
closes n ns levels ws deep nest ended = closes_in (length ws + 1) n ns levels ws (omega arith) deep nest ended

-- after the root element only blanks, comments and instructions follow
pub epilog : (ws : List Written) → Nest true [] ws → AreMisc ws
epilog [] nest = refl
epilog (w ∷ ws) nest = by w.piece refl nest.0 nest.1 (λ n. epilog ws n)
  where
    by : (p : Piece) → w.piece ≡ p → Fits true [] p → Nest (rooted_after true p) (names_after [] p) ws → (Nest true [] ws → AreMisc ws) → AreMisc (w ∷ ws)
    by (Pieces.Character part) e fits nest rec = both_and (is_misc w.piece) (list_all (λ x. is_misc x.piece) ws) (ap (λ (p : Piece). is_misc p) e ∙ fits) (rec nest)
    by (Pieces.Section body) e fits nest rec = absurd (cc)
    by Pieces.Comment e fits nest rec = both_and (is_misc w.piece) (list_all (λ x. is_misc x.piece) ws) (ap (λ (p : Piece). is_misc p) e) (rec nest)
    by Pieces.Instruction e fits nest rec = both_and (is_misc w.piece) (list_all (λ x. is_misc x.piece) ws) (ap (λ (p : Piece). is_misc p) e) (rec nest)
    by (Pieces.Opened t) e fits nest rec = absurd (cc)
    by (Pieces.Closed name) e fits nest rec = absurd (cc)

pub record Parted (ws : List Written) : Type 0 where
  pub before : List Written
  pub element : List Written
  pub after : List Written
  pub is : ws ≡ before ++ element ++ after
  pub prolog : AreMisc before
  pub root : IsElement 64 element
  pub epilog : AreMisc after

parted_after : (w : Written) (ws : List Written) → is_misc w.piece ≡ true → Parted ws → Parted (w ∷ ws)
parted_after w ws is p = record {
  before = w ∷ p.before;
  element = p.element;
  after = p.after;
  is = ap (λ (l : List Written). w ∷ l) p.is;
  prolog = both_and (is_misc w.piece) (list_all (λ x. is_misc x.piece) p.before) is p.prolog;
  root = p.root;
  epilog = p.epilog;
}

pub parted : (ws : List Written) → Nest false [] ws → names_end [] ws ≡ [] → rooted_end false ws ≡ true → Parted ws
unfolding IsElement
parted [] nest ended rooted = absurd (cc)
parted (w ∷ ws) nest ended rooted = by w.piece refl nest.0 nest.1 ended rooted (λ a b c. parted ws a b c)
  where
    by : (p : Piece) → w.piece ≡ p → Fits false [] p → Nest (rooted_after false p) (names_after [] p) ws → names_end (names_after [] p) ws ≡ [] → rooted_end (rooted_after false p) ws ≡ true
        → (Nest false [] ws → names_end [] ws ≡ [] → rooted_end false ws ≡ true → Parted ws) → Parted (w ∷ ws)
    by (Pieces.Character part) e fits nest ended rooted rec = parted_after w ws (ap (λ (p : Piece). is_misc p) e ∙ fits) (rec nest ended rooted)
    by (Pieces.Section body) e fits nest ended rooted rec = absurd (cc)
    by Pieces.Comment e fits nest ended rooted rec = parted_after w ws (ap (λ (p : Piece). is_misc p) e) (rec nest ended rooted)
    by Pieces.Instruction e fits nest ended rooted rec = parted_after w ws (ap (λ (p : Piece). is_misc p) e) (rec nest ended rooted)
    by (Pieces.Closed name) e fits nest ended rooted rec = absurd (cc)
    by (Pieces.Opened t) e fits nest ended rooted rec = opened t.kind refl
      where
        opened : (kind : TagKind) → t.kind ≡ kind → Parted (w ∷ ws)
        opened Empty kind =
            let same : names_after [] (Pieces.Opened t) ≡ [] = ap (λ (k : TagKind). names_with t.name [] k) kind in
            record {
              before = [];
              element = w ∷ [];
              after = ws;
              is = refl;
              prolog = refl;
              root = inl (record { only = w; tag = t; is = refl; opens = e; empties = kind });
              epilog = epilog ws (subst (λ (names : List (List ℕ)). Nest true names ws) same nest);
            }
        opened Start kind =
            let more : names_after [] (Pieces.Opened t) ≡ t.name ∷ [] = ap (λ (k : TagKind). names_with t.name [] k) kind in
            let inner = closes t.name [] 63 ws refl (subst (λ (names : List (List ℕ)). Nest true names ws) more nest) (sym (ap (λ (names : List (List ℕ)). names_end names ws) more) ∙ ended) in
            let item = w ∷ inner.content ++ inner.close ∷ [] in
            record {
              before = [];
              element = item;
              after = inner.rest;
              is = ap (λ (l : List Written). w ∷ l) (inner.is ∙ sym (append_assoc inner.content (inner.close ∷ []) inner.rest));
              prolog = refl;
              root = inr (record { open_ = w; content = inner.content; close = inner.close; tag = t; is = refl; opens = e; starts = kind; inside = inner.inside; closes = inner.closes });
              epilog = epilog inner.rest inner.nest;
            }

-- ---- what is said

tokens_after_is : (tokens : List Token) (line : ℕ) (said : List ℕ) (p : Piece) → tokens_after tokens line said p ≡ tokens ++ tokens_at line said p
tokens_after_is tokens line said (Pieces.Character part) = sym (append-nil tokens)
tokens_after_is tokens line said (Pieces.Section body) = sym (append-nil tokens)
tokens_after_is tokens line said Pieces.Comment = sym (append-nil tokens)
tokens_after_is tokens line said Pieces.Instruction = sym (append-nil tokens)
tokens_after_is tokens line said (Pieces.Opened t) = refl
tokens_after_is tokens line said (Pieces.Closed name) = refl

said_in_is : (names : List (List ℕ)) (said : List ℕ) (p : Piece) → IsWithin names p → said_in names said p ≡ said_after said p
said_in_is [] said p (inl h) = absurd (cc)
said_in_is [] said p (inr t) = ap (λ (q : Piece). said_in [] said q) t.1 ∙ sym (ap (λ (q : Piece). said_after said q) t.1)
said_in_is (n ∷ ns) said p within = refl

pub tokens_inside : (c : Core) (ws : List Written) → Inside c.names ws → (core_after c ws).tokens ≡ c.tokens ++ tokens_of c.line c.said ws
tokens_inside c [] inside = sym (append-nil c.tokens)
tokens_inside c (w ∷ ws) inside =
    let next_line = line_after c.line w.text in
    tokens_inside (moved c w) ws inside.1
    ∙ ap (λ (s : List ℕ). tokens_after c.tokens c.line c.said w.piece ++ tokens_of next_line s ws) (said_in_is c.names c.said w.piece inside.0)
    ∙ ap (λ (t : List Token). t ++ tokens_of next_line (said_after c.said w.piece) ws) (tokens_after_is c.tokens c.line c.said w.piece)
    ∙ append_assoc c.tokens (tokens_at c.line c.said w.piece) (tokens_of next_line (said_after c.said w.piece) ws)

abbrev outside : Core → Core
outside c = record c { names = [] }

-- outside the root element nothing is said
pub misc_core : (tokens : List Token) (rooted : Bool) (said : List ℕ) (line : ℕ) (ws : List Written) → AreMisc ws
    → (let c : Core = record { tokens = tokens; names = []; rooted = rooted; said = said; line = line } in core_after c ws ≡ record c { line = line_after line (texts ws) })
misc_core tokens rooted said line [] are = refl
misc_core tokens rooted said line (w ∷ ws) are =
    let both = and_both (is_misc w.piece) (list_all (λ x. is_misc x.piece) ws) are in
    let next_line = line_after line w.text in
    let one : Core = record { tokens = tokens; names = []; rooted = rooted; said = said; line = next_line } in
    ap (λ (d : Core). core_after d ws) (by w.piece refl both.0) ∙ misc_core tokens rooted said next_line ws both.1 ∙ ap (λ (l : ℕ). record one { line = l }) (sym (lines_append line w.text (texts ws)))
  where
    by : (p : Piece) → w.piece ≡ p → is_misc p ≡ true
        → moved (record { tokens = tokens; names = []; rooted = rooted; said = said; line = line }) w ≡ record { tokens = tokens; names = []; rooted = rooted; said = said; line = line_after line w.text }
    by (Pieces.Character part) e is = ap (λ (p : Piece). moved (record { tokens = tokens; names = []; rooted = rooted; said = said; line = line }) (record { text = w.text; piece = p })) e
    by (Pieces.Section body) e is = absurd (cc)
    by Pieces.Comment e is = ap (λ (p : Piece). moved (record { tokens = tokens; names = []; rooted = rooted; said = said; line = line }) (record { text = w.text; piece = p })) e
    by Pieces.Instruction e is = ap (λ (p : Piece). moved (record { tokens = tokens; names = []; rooted = rooted; said = said; line = line }) (record { text = w.text; piece = p })) e
    by (Pieces.Opened t) e is = absurd (cc)
    by (Pieces.Closed name) e is = absurd (cc)

pub misc_nest : (rooted : Bool) (ws : List Written) → AreMisc ws → Nest rooted [] ws × (names_end [] ws ≡ []) × (rooted_end rooted ws ≡ rooted)
misc_nest rooted [] are = (tt, refl, refl)
misc_nest rooted (w ∷ ws) are =
    let both = and_both (is_misc w.piece) (list_all (λ x. is_misc x.piece) ws) are in
    by w.piece refl both.0 (misc_nest rooted ws both.1)
  where
    made : (p : Piece) → w.piece ≡ p → Fits rooted [] p → names_after [] p ≡ [] → rooted_after rooted p ≡ rooted → Nest rooted [] ws × (names_end [] ws ≡ []) × (rooted_end rooted ws ≡ rooted)
        → Nest rooted [] (w ∷ ws) × (names_end [] (w ∷ ws) ≡ []) × (rooted_end rooted (w ∷ ws) ≡ rooted)
    made p e fits names root rest =
        let names_same : names_after [] w.piece ≡ [] = ap (λ (q : Piece). names_after [] q) e ∙ names in
        let root_same : rooted_after rooted w.piece ≡ rooted = ap (λ (q : Piece). rooted_after rooted q) e ∙ root in (
          (subst (λ (q : Piece). Fits rooted [] q) (sym e) fits, subst (λ (r : Bool). Nest r (names_after [] w.piece) ws) (sym root_same) (subst (λ (n : List (List ℕ)). Nest rooted n ws) (sym names_same) rest.0)),
          ap (λ (n : List (List ℕ)). names_end n ws) names_same ∙ rest.1,
          ap (λ (r : Bool). rooted_end r ws) root_same ∙ rest.2,
        )

    by : (p : Piece) → w.piece ≡ p → is_misc p ≡ true → Nest rooted [] ws × (names_end [] ws ≡ []) × (rooted_end rooted ws ≡ rooted)
        → Nest rooted [] (w ∷ ws) × (names_end [] (w ∷ ws) ≡ []) × (rooted_end rooted (w ∷ ws) ≡ rooted)
    by (Pieces.Character part) e is rest = made (Pieces.Character part) e is refl refl rest
    by (Pieces.Section body) e is rest = absurd (cc)
    by Pieces.Comment e is rest = made Pieces.Comment e refl refl refl rest
    by Pieces.Instruction e is rest = made Pieces.Instruction e refl refl refl rest
    by (Pieces.Opened t) e is rest = absurd (cc)
    by (Pieces.Closed name) e is rest = absurd (cc)
