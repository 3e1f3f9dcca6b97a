-- What documents say is well-formed.
use Rattle.std.proofs.Common.{◌≡◌, ℕ, zero, suc, ◌+◌, ◌≤◌, Bool, true, false, ◌&&◌, List, [], ◌∷◌, Option, Some, None, refl, subst, map, length, if◌then◌else◌, arith}
use Rattle.std.specs.Prelude.{◌==◌, Result, Ok, Err, IfOk, bytes_eq, codes, drop, take, nat_le, option_map, option_and_then, position, filter_map}
use Rattle.std.specs.List.{AllByRecursion, list_all}
use Rattle.std.specs.Str.Parse.{digits_value}
use Rattle.std.proofs.lemmas.Bool.Decides.{nat_tests}
use Rattle.std.proofs.lemmas.List.Elements.{All-from_recursion}
use Rattle.idn_text.specs.Points.{is_hex_text, is_scalar_value, point_of_hex}
use Rattle.label_patterns.specs.declared.span.Span.{Span}
use Rattle.xml_text.specs.Attributes.{Attribute}
use Rattle.xml_text.specs.Tokens.{Token}
use Rattle.lgr_text.specs.Actions.{action_of}
use Rattle.lgr_text.specs.Attributes.{value, are_among}
use Rattle.lgr_text.specs.ClassMembers.{HasSpans}
use Rattle.lgr_text.specs.Classes.{class_as, class_by, class_element, class_in, class_names, class_of, complement, joined, reference_names, referring, set_names, sets_in, simple_class, takes}
use Rattle.lgr_text.specs.CodePoints.{AreSpans, IsSpan}
use Rattle.lgr_text.specs.Definitions.{defined_name, definition_of, max_levels, meaning_of}
use Rattle.lgr_text.specs.Documents.{IsSaidBy, Says}
use Rattle.lgr_text.specs.Elements.{Content, Nothing, Text, Element, Node, each_element, every_element, if_plain, is_blank_text, is_empty, text_of, with_first}
use Rattle.lgr_text.specs.Entries.{char_of, char_with, condition_by, entry_of, entry_with, may_be_tagged, range_by, range_of, sequence_by, span_by, tags_by, variant_of, points_by, point_by}
use Rattle.lgr_text.specs.Facts.{is_fact}
use Rattle.lgr_text.specs.Known.{single_points}
use Rattle.lgr_text.specs.Nested.{nested}
use Rattle.lgr_text.specs.Orders.{Item, admits, in_order, together}
use Rattle.lgr_text.specs.PartMatches.{IsUpTo, IsWellFormed}
use Rattle.lgr_text.specs.Parts.{counted, holder_names, item_as, item_of, order_in, part_as, part_of, plain_names, plain_part, role_of, rule_element, rule_of}
use Rattle.lgr_text.specs.Records.{Class, Definition, Entry, IsClass, IsRule, Joined, Listed, Literal, Of, OfClass, OfProperty, OfRule, OfTag, Part, Range, Ruleset, Sequence, Source, Times, Variant, file}
use Rattle.lgr_text.specs.declared.records.Ruleset as held
use Rattle.lgr_text.specs.declared.fault.ReadError.{ReadError}
use Rattle.lgr_text.specs.Sections.{Data, Meta, Rules, Section, data_of, meta_of, ruleset_by, ruleset_with, section_of}
use Rattle.lgr_text.specs.Statements as statements
use Rattle.lgr_text.specs.Statements.{Acts, Defines, Statement, defined, rules_of, statement_of}
use Rattle.lgr_text.specs.Values.{count, count_between, count_by, count_cut, count_from, each, name_of, not_empty, number, point, points, span, span_between, span_cut, spans}
use Rattle.lgr_text.specs.WellFormed.{IsWellFormedMeaning, IsWellFormedRuleset}
use Rattle.lgr_text.specs.Words.{words}
use Rattle.lgr_text.specs.declared.classes.ClassElement.{ClassElement}
use Rattle.lgr_text.specs.declared.classes.ClassElement.TheVariants as element
use Rattle.lgr_text.specs.declared.classes.ClassPlace.{ClassPlace}
use Rattle.lgr_text.specs.declared.classes.ClassPlace.TheVariants.{InRule, InSet, OfRules}
use Rattle.lgr_text.specs.declared.joins.SetOperation.{SetOperation}
use Rattle.lgr_text.specs.declared.names.NameKind.TheVariants as kinds
use Rattle.lgr_text.specs.declared.orders.Order.{Order}
use Rattle.lgr_text.specs.declared.orders.Order.TheVariants as order
use Rattle.lgr_text.specs.declared.records.Count.{Count}
use Rattle.lgr_text.specs.declared.rule_elements.PlainElement.{PlainElement}
use Rattle.lgr_text.specs.declared.rule_elements.PlainElement.TheVariants as plain
use Rattle.lgr_text.specs.declared.rule_elements.RuleElement.{RuleElement}
use Rattle.lgr_text.specs.declared.rule_elements.RuleElement.TheVariants.{ClassOrSet, Plain, Holder}

-- ---- what is said, if something is

abbrev Gives : {X : Type 0} → (X → Type 0) → Option X → Type 0
Gives P None = Unit {0}
Gives P (Some x) = P x

given : {X : Type 0} (P : X → Type 0) (o : Option X) (x : X) → Gives P o → o ≡ Some x → P x
given P None x h e = absurd cc
given P (Some y) x h e = let same : y ≡ x = cc in subst P same h

gives-map : {X Y : Type 0} (P : X → Type 0) (Q : Y → Type 0) (f : X → Y) (o : Option X) → ((x : X) → P x → Q (f x)) → Gives P o → Gives Q (option_map f o)
gives-map P Q f None leads h = tt
gives-map P Q f (Some x) leads h = leads x h

gives-then : {X Y : Type 0} (P : X → Type 0) (Q : Y → Type 0) (f : X → Option Y) (o : Option X) → ((x : X) → P x → Gives Q (f x)) → Gives P o → Gives Q (option_and_then f o)
gives-then P Q f None leads h = tt
gives-then P Q f (Some x) leads h = leads x h

gives-any : {X : Type 0} (o : Option X) → Gives (λ x. Unit {0}) o
gives-any None = tt
gives-any (Some x) = tt

gives-either : {X : Type 0} (P : X → Type 0) (b : Bool) (o p : Option X) → Gives P o → Gives P p → Gives P (if b then o else p)
gives-either P true o p h k = h
gives-either P false o p h k = k

gives-if : {X : Type 0} (P : X → Type 0) (b : Bool) (o : Option X) → Gives P o → Gives P (if b then o else None)
gives-if P b o h = gives-either P b o None h tt

gives-first : {X : Type 0} (P : X → Type 0) (first : Option X) (others : Option (List X)) → Gives P first → Gives (AllByRecursion P) others → Gives (AllByRecursion P) (with_first first others)
gives-first P None others h k = tt
gives-first P (Some x) None h k = tt
gives-first P (Some x) (Some xs) h k = (h, k)

gives-elements : {X : Type 0} (P : X → Type 0) (read : Node → Option X) → ((n : Node) → Gives P (read n)) → (c : Content) → Gives (AllByRecursion P) (each_element read c)
unfolding each_element
gives-elements P read gives Nothing = tt
gives-elements P read gives (Text text rest) = gives-if (AllByRecursion P) (is_blank_text text) (each_element read rest) (gives-elements P read gives rest)
gives-elements P read gives (Element name attributes within rest) =
    let n : Node = record { name = name; attributes = attributes; within = within } in
    gives-first P (read n) (each_element read rest) (gives n) (gives-elements P read gives rest)

gives-each : {X : Type 0} (P : X → Type 0) (read : List ℕ → Option X) → ((w : List ℕ) → Gives P (read w)) → (ws : List (List ℕ)) → Gives (AllByRecursion P) (each read ws)
gives-each {X} P read gives [] = tt
gives-each {X} P read gives (w ∷ ws) = one-more (read w) (each read ws) (gives w) (gives-each P read gives ws)
  where
    one-more : (o : Option X) (rest : Option (List X)) → Gives P o → Gives (AllByRecursion P) rest
        → Gives (AllByRecursion P) (option_and_then (λ x. option_map (λ xs. x ∷ xs) rest) o)
    one-more None rest h k = tt
    one-more (Some x) None h k = tt
    one-more (Some x) (Some xs) h k = (h, k)

gives-some : {X : Type 0} (P : List X → Type 0) (xs : List X) → P xs → Gives P (not_empty xs)
gives-some P [] h = tt
gives-some P (x ∷ xs) h = h

gives-nested : {X : Type 0} (P : X → Type 0) (both : X → X → X) → ((x y : X) → P x → P y → P (both x y)) → (xs : List X) → AllByRecursion P xs → Gives P (nested both xs)
gives-nested P both joins [] h = tt
gives-nested P both joins (x ∷ []) h = h.0
gives-nested P both joins (x ∷ y ∷ xs) h =
    gives-map P P (both x) (nested both (y ∷ xs)) (λ z k. joins x z h.0 k) (gives-nested P both joins (y ∷ xs) h.1)

-- ---- code points

abbrev IsPoint : ℕ → Type 0
IsPoint c = c ≤ 0x10FFFF

scalar-small : (c : ℕ) → is_scalar_value c ≡ true → c ≤ 0x10FFFF
scalar-small c e = grind (arith, nat_tests, e)

gives-point : (word : List ℕ) → Gives IsPoint (point word)
unfolding point_of_hex
gives-point word = gives-if IsPoint (list_all _ word) (point_of_hex word) (by-test (is_hex_text word) (is_scalar_value (digits_value 16 word)) refl)
  where
    by-test : (b d : Bool) → is_scalar_value (digits_value 16 word) ≡ d → Gives IsPoint (if b && d then Some (digits_value 16 word) else None)
    by-test true true e = scalar-small (digits_value 16 word) e
    by-test true false e = tt
    by-test false d e = tt

le-from : (a b : ℕ) → nat_le a b ≡ true → a ≤ b
le-from a b e = grind (arith, nat_tests, e)

gives-span : (first last : Option ℕ) → Gives IsPoint last → Gives IsSpan (span_between first last)
gives-span None last h = tt
gives-span (Some first) None h = tt
gives-span (Some first) (Some last) h = by-test (nat_le first last) refl
  where
    by-test : (b : Bool) → nat_le first last ≡ b → Gives IsSpan (if b then Some (record { first = first; last = last }) else None)
    by-test true e = (le-from first last e, h)
    by-test false e = tt

gives-word : (word : List ℕ) → Gives IsSpan (span word)
gives-word word = by-place (position _ word)
  where
    by-place : (o : Option ℕ) → Gives IsSpan (span_cut word o)
    by-place None = gives-span (point word) (point word) (gives-point word)
    by-place (Some place) = gives-span (point (take place word)) (point (drop (place + 1) word)) (gives-point (drop (place + 1) word))

gives-spans : (text : List ℕ) → Gives AreSpans (spans text)
gives-spans text =
    gives-then (AllByRecursion IsSpan) AreSpans not_empty (each span (words text))
    (λ xs h. gives-some AreSpans xs (All-from_recursion IsSpan xs h)) (gives-each IsSpan span gives-word (words text))

-- ---- classes

gives-class-by : (tag property : Option (List ℕ)) (text : List ℕ) → Gives HasSpans (class_by tag property text)
gives-class-by None None text = gives-map AreSpans HasSpans Listed (spans text) (λ s h. h) (gives-spans text)
gives-class-by (Some tag) None text =
    gives-if HasSpans (is_blank_text text) (option_map OfTag (name_of kinds.Token tag))
    (gives-map (λ n. Unit {0}) HasSpans OfTag (name_of kinds.Token tag) (λ n h. tt) (gives-any (name_of kinds.Token tag)))
gives-class-by None (Some property) text =
    gives-if HasSpans (is_blank_text text) (option_map OfProperty (name_of kinds.Token property))
    (gives-map (λ n. Unit {0}) HasSpans OfProperty (name_of kinds.Token property) (λ n h. tt) (gives-any (name_of kinds.Token property)))
gives-class-by (Some tag) (Some property) text = tt

gives-simple : (place : ClassPlace) (node : Node) (name : Option (List ℕ)) → Gives HasSpans (simple_class place node name)
gives-simple place node (Some name) =
    gives-if HasSpans (are_among (reference_names place) node.attributes && is_empty node.within) (option_map OfClass (name_of kinds.Identifier name))
    (gives-map (λ n. Unit {0}) HasSpans OfClass (name_of kinds.Identifier name) (λ n h. tt) (gives-any (name_of kinds.Identifier name)))
gives-simple place node None =
    gives-if HasSpans (are_among (class_names place) node.attributes) (option_and_then (class_in node.attributes) (text_of node.within))
    (gives-then (λ t. Unit {0}) HasSpans (class_in node.attributes) (text_of node.within)
    (λ t h. gives-class-by (value node.attributes (codes "from-tag")) (value node.attributes (codes "property")) t) (gives-any (text_of node.within)))

gives-joined : (operation : SetOperation) (ks : List Class) → AllByRecursion HasSpans ks → Gives HasSpans (joined operation ks)
gives-joined operation ks h =
    gives-if HasSpans (takes operation (length ks)) (nested (Joined operation) ks)
    (gives-nested HasSpans (Joined operation) (λ k m a b. (a, b)) ks h)

gives-complement : (ks : List Class) → AllByRecursion HasSpans ks → Gives HasSpans (complement ks)
gives-complement [] h = tt
gives-complement (k ∷ []) h = h.0
gives-complement (k ∷ m ∷ ks) h = tt

gives-class-as : (e : Option ClassElement) (sets : Content → Option (List Class)) → ((c : Content) → Gives (AllByRecursion HasSpans) (sets c))
    → (place : ClassPlace) (node : Node) → Gives HasSpans (class_as e sets place node)
gives-class-as None sets gives place node = tt
gives-class-as (Some element.Class) sets gives place node = gives-simple place node (referring place node.attributes)
gives-class-as (Some (element.Joined operation)) sets gives place node =
    gives-then (AllByRecursion HasSpans) HasSpans (joined operation) (sets_in sets place node) (gives-joined operation)
    (gives-if (AllByRecursion HasSpans) (are_among (set_names place) node.attributes) (sets node.within) (gives node.within))
gives-class-as (Some element.Complement) sets gives place node =
    gives-then (AllByRecursion HasSpans) HasSpans complement (sets_in sets place node) gives-complement
    (gives-if (AllByRecursion HasSpans) (are_among (set_names place) node.attributes) (sets node.within) (gives node.within))

gives-class : (levels : ℕ) (place : ClassPlace) (node : Node) → Gives HasSpans (class_of levels place node)
unfolding class_of
gives-class zero place node = tt
gives-class (suc levels) place node =
    gives-class-as (class_element node.name) (each_element (class_of levels InSet))
    (gives-elements HasSpans (class_of levels InSet) (gives-class levels InSet)) place node

-- ---- rules

gives-counted : (text : Option (List ℕ)) (p : Part) → IsWellFormed p → Gives IsWellFormed (counted text p)
gives-counted None p h = h
gives-counted (Some text) p h =
    gives-map (λ (n : Count). IsUpTo n.least n.most) IsWellFormed (λ (n : Count). Times n p) (count text) (λ n k. (k, h)) (by-place (position _ text))
  where
    between : (least most : Option ℕ) → Gives (λ (n : Count). IsUpTo n.least n.most) (count_between least most)
    between None most = tt
    between (Some least) None = tt
    between (Some least) (Some most) = by-test (nat_le least most) (nat_le 1 most) refl
      where
        by-test : (b d : Bool) → nat_le least most ≡ b
            → Gives (λ (n : Count). IsUpTo n.least n.most) (if b && d then Some (record { least = least; most = Some most }) else None)
        by-test true true e = le-from least most e
        by-test true false e = tt
        by-test false d e = tt

    from : (least : Option ℕ) → Gives (λ (n : Count). IsUpTo n.least n.most) (count_from least)
    from None = tt
    from (Some least) = tt

    by-sign : (least : Option ℕ) (rest : List ℕ) → Gives (λ (n : Count). IsUpTo n.least n.most) (count_by least rest)
    by-sign least [] = tt
    by-sign least (sign ∷ digits) =
        gives-either (λ (n : Count). IsUpTo n.least n.most) (sign == 58) (count_between least (number digits))
        (if sign == 43 && length digits == 0 then count_from least else None) (between least (number digits))
        (gives-if (λ (n : Count). IsUpTo n.least n.most) (sign == 43 && length digits == 0) (count_from least) (from least))

    by-place : (o : Option ℕ) → Gives (λ (n : Count). IsUpTo n.least n.most) (count_cut text o)
    by-place None = between (number text) (number text)
    by-place (Some place) = by-sign (number (take place text)) (drop place text)

gives-item : (node : Node) (part : Option Part) → Gives IsWellFormed part → Gives (λ (i : Item). IsWellFormed i.part) (item_as node part)
gives-item node part h =
    gives-map IsWellFormed (λ (i : Item). IsWellFormed i.part) (λ p. record { role = role_of (rule_element node.name node.attributes); part = p })
    (option_and_then (counted (value node.attributes (codes "count"))) part) (λ p k. k)
    (gives-then IsWellFormed IsWellFormed (counted (value node.attributes (codes "count"))) part (gives-counted (value node.attributes (codes "count"))) h)

together-well : (o : Order) (p q : Part) → IsWellFormed p → IsWellFormed q → IsWellFormed (together o p q)
together-well order.OfRule p q h k = (h, k)
together-well order.OfLook p q h k = (h, k)
together-well order.OfChoice p q h k = (h, k)

parts-well : (items : List Item) → AllByRecursion (λ (i : Item). IsWellFormed i.part) items → AllByRecursion IsWellFormed (map (λ i. i.part) items)
parts-well [] h = tt
parts-well (i ∷ items) h = (h.0, parts-well items h.1)

gives-order : (o : Order) (items : List Item) → AllByRecursion (λ (i : Item). IsWellFormed i.part) items → Gives IsWellFormed (in_order o items)
gives-order o items h =
    gives-if IsWellFormed (admits o (map (λ i. i.role) items)) (nested (together o) (map (λ i. i.part) items))
    (gives-nested IsWellFormed (together o) (together-well o) (map (λ i. i.part) items) (parts-well items h))

gives-plain : (p : PlainElement) (attributes : List Attribute) → Gives IsWellFormed (plain_part p attributes)
gives-plain plain.Char attributes =
    gives-map (λ s. Unit {0}) IsWellFormed Literal (sequence_by attributes) (λ s h. tt) (gives-any (sequence_by attributes))
gives-plain plain.Any attributes = tt
gives-plain plain.RuleByName attributes =
    gives-map (λ s. Unit {0}) IsWellFormed OfRule (option_and_then (name_of kinds.Identifier) (value attributes (codes "by-ref"))) (λ s h. tt)
    (gives-any (option_and_then (name_of kinds.Identifier) (value attributes (codes "by-ref"))))
gives-plain plain.Start attributes = tt
gives-plain plain.End attributes = tt
gives-plain plain.Anchor attributes = tt

gives-part-as : (e : RuleElement) (class : Option Part) (items : Content → Option (List Item)) (node : Node) → Gives IsWellFormed class
    → ((c : Content) → Gives (AllByRecursion (λ (i : Item). IsWellFormed i.part)) (items c)) → Gives IsWellFormed (part_as e class items node)
gives-part-as ClassOrSet class items node h gives = h
gives-part-as (Plain p) class items node h gives =
    gives-if IsWellFormed (are_among (plain_names p) node.attributes && is_empty node.within) (plain_part p node.attributes) (gives-plain p node.attributes)
gives-part-as (Holder holder) class items node h gives =
    gives-if IsWellFormed (are_among (holder_names holder) node.attributes) (option_and_then (in_order (order_in holder)) (items node.within))
    (gives-then (AllByRecursion (λ (i : Item). IsWellFormed i.part)) IsWellFormed (in_order (order_in holder)) (items node.within) (gives-order (order_in holder)) (gives node.within))

gives-part : (levels : ℕ) (node : Node) → Gives IsWellFormed (part_of levels node)
unfolding part_of
gives-part zero node = tt
gives-part (suc levels) node =
    gives-part-as (rule_element node.name node.attributes) (option_map Of (class_of (suc levels) InRule node))
    (each_element (λ n. item_as n (part_of levels n))) node
    (gives-map HasSpans IsWellFormed Of (class_of (suc levels) InRule node) (λ k h. h) (gives-class (suc levels) InRule node))
    (gives-elements (λ (i : Item). IsWellFormed i.part) (λ n. item_as n (part_of levels n)) (λ n. gives-item n (part_of levels n) (gives-part levels n)))

gives-rule : (levels : ℕ) (node : Node) → Gives IsWellFormed (rule_of levels node)
gives-rule levels node =
    gives-if IsWellFormed (are_among (codes "name comment ref") node.attributes) (option_and_then (in_order order.OfRule) (each_element (item_of levels) node.within))
    (gives-then (AllByRecursion (λ (i : Item). IsWellFormed i.part)) IsWellFormed (in_order order.OfRule) (each_element (item_of levels) node.within) (gives-order order.OfRule)
    (gives-elements (λ (i : Item). IsWellFormed i.part) (item_of levels) (λ n. gives-item n (part_of levels n) (gives-part levels n)) node.within))

gives-meaning : (node : Node) → Gives IsWellFormedMeaning (meaning_of node)
gives-meaning node =
    gives-either IsWellFormedMeaning (bytes_eq node.name (codes "rule")) (option_map IsRule (rule_of max_levels node)) (option_map IsClass (class_of max_levels OfRules node))
    (gives-map IsWellFormed IsWellFormedMeaning IsRule (rule_of max_levels node) (λ p h. h) (gives-rule max_levels node))
    (gives-map HasSpans IsWellFormedMeaning IsClass (class_of max_levels OfRules node) (λ k h. h) (gives-class max_levels OfRules node))

abbrev IsWellDefined : Definition → Type 0
IsWellDefined d = IsWellFormedMeaning d.meaning

gives-definition : (node : Node) → Gives IsWellDefined (definition_of node)
gives-definition node =
    gives-then (λ n. Unit {0}) IsWellDefined (λ n. option_map (λ m. record { name = n; meaning = m }) (meaning_of node)) (defined_name node)
    (λ n h. gives-map IsWellFormedMeaning IsWellDefined (λ m. record { name = n; meaning = m }) (meaning_of node) (λ m k. k) (gives-meaning node))
    (gives-any (defined_name node))

-- ---- statements

abbrev IsWellStated : Statement → Type 0
IsWellStated (Defines d) = IsWellDefined d
IsWellStated (Acts a) = Unit {0}

gives-statement : (node : Node) → Gives IsWellStated (statement_of node)
gives-statement node =
    gives-either IsWellStated (bytes_eq node.name (codes "action")) (option_map Acts (action_of node)) (option_map Defines (definition_of node))
    (gives-map (λ a. Unit {0}) IsWellStated Acts (action_of node) (λ a h. tt) (gives-any (action_of node)))
    (gives-map IsWellDefined IsWellStated Defines (definition_of node) (λ d h. h) (gives-definition node))

definitions-well : (ss : List Statement) → AllByRecursion IsWellStated ss → AllByRecursion IsWellDefined (filter_map defined ss)
definitions-well [] h = tt
definitions-well (Defines d ∷ ss) h = (h.0, definitions-well ss h.1)
definitions-well (Acts a ∷ ss) h = definitions-well ss h.1

-- ---- entries

abbrev IsWellEntered : Entry → Type 0
IsWellEntered e = AreSpans (single_points e.source)

one-span : (s : Span) → IsSpan s → AreSpans (s ∷ [])
one-span s h = All-from_recursion IsSpan (s ∷ []) (h, tt)

no-span : AreSpans []
no-span = All-from_recursion IsSpan [] tt

-- its source is made of code points
abbrev IsWellSourced : Source → Type 0
IsWellSourced s = AreSpans (single_points s)

gives-entry-with : (attributes : List Attribute) (s : Source) (vs : List Variant) → IsWellSourced s → Gives IsWellEntered (entry_with attributes s vs)
gives-entry-with attributes s vs h =
    gives-then (λ c. Unit {0}) IsWellEntered _ (condition_by attributes)
    (λ c k. gives-then (λ ts. Unit {0}) IsWellEntered _ (tags_by (value attributes (codes "tag")))
    (λ ts l. gives-if IsWellEntered (may_be_tagged s ts) (Some (record { source = s; condition = c; tags = ts; variants = vs })) h)
    (gives-any (tags_by (value attributes (codes "tag")))))
    (gives-any (condition_by attributes))

point-span : (c : ℕ) → c ≤ 0x10FFFF → IsSpan (record { first = c; last = c })
point-span c h = (omega arith, h)

sequence-well : (cs : List ℕ) → AllByRecursion IsPoint cs → IsWellSourced (Sequence cs)
sequence-well [] h = no-span
sequence-well (c ∷ []) h = one-span (record { first = c; last = c }) (point-span c h.0)
sequence-well (c ∷ d ∷ cs) h = no-span

gives-points : (attributes : List Attribute) → Gives (AllByRecursion IsPoint) (points_by attributes)
gives-points attributes =
    gives-then (λ t. Unit {0}) (AllByRecursion IsPoint) points (value attributes (codes "cp")) (λ t h. gives-each IsPoint point gives-point (words t))
    (gives-any (value attributes (codes "cp")))

gives-sequence : (attributes : List Attribute) → Gives (AllByRecursion IsPoint) (sequence_by attributes)
gives-sequence attributes =
    gives-then (AllByRecursion IsPoint) (AllByRecursion IsPoint) not_empty (points_by attributes) (gives-some (AllByRecursion IsPoint)) (gives-points attributes)

gives-char : (node : Node) → Gives IsWellEntered (char_of node)
gives-char node =
    gives-if IsWellEntered (are_among (codes "cp when not-when tag comment ref") node.attributes)
    (option_and_then (char_with node.attributes) (each_element variant_of node.within))
    (gives-then (λ vs. Unit {0}) IsWellEntered (char_with node.attributes) (each_element variant_of node.within)
    (λ vs h. gives-then (AllByRecursion IsPoint) IsWellEntered (λ cs. entry_with node.attributes (Sequence cs) vs) (sequence_by node.attributes)
    (λ cs k. gives-entry-with node.attributes (Sequence cs) vs (sequence-well cs k)) (gives-sequence node.attributes))
    (gives-any (each_element variant_of node.within)))

gives-point-by : (text : Option (List ℕ)) → Gives IsPoint (point_by text)
gives-point-by text = gives-then (λ t. Unit {0}) IsPoint point text (λ t h. gives-point t) (gives-any text)

gives-range-by : (attributes : List Attribute) → Gives IsWellEntered (range_by attributes)
gives-range-by attributes =
    gives-then IsSpan IsWellEntered (λ s. entry_with attributes (Range s) []) (span_by attributes)
    (λ s h. gives-entry-with attributes (Range s) [] (one-span s h))
    (gives-span (point_by (value attributes (codes "first-cp"))) (point_by (value attributes (codes "last-cp"))) (gives-point-by (value attributes (codes "last-cp"))))

gives-range : (node : Node) → Gives IsWellEntered (range_of node)
gives-range node =
    gives-if IsWellEntered (bytes_eq node.name (codes "range"))
    (if_plain (codes "first-cp last-cp when not-when tag comment ref") node (range_by node.attributes))
    (gives-if IsWellEntered (are_among (codes "first-cp last-cp when not-when tag comment ref") node.attributes && is_empty node.within) (range_by node.attributes)
    (gives-range-by node.attributes))

gives-entry : (node : Node) → Gives IsWellEntered (entry_of node)
gives-entry node = gives-either IsWellEntered (bytes_eq node.name (codes "char")) (char_of node) (range_of node) (gives-char node) (gives-range node)

-- ---- sections

abbrev IsWellSection : Section → Type 0
IsWellSection Meta = Unit {0}
IsWellSection (Data entries) = AllByRecursion IsWellEntered entries
IsWellSection (Rules rules) = AllByRecursion IsWellDefined rules.definitions

gives-section : (node : Node) → Gives IsWellSection (section_of node)
gives-section node =
    let rules = option_map (λ ss. Rules (rules_of ss)) (each_element statement_of node.within) in
    let others = if bytes_eq node.name (codes "data") then data_of node.within else if bytes_eq node.name (codes "rules") then rules else None in
    gives-if IsWellSection (are_among [] node.attributes) (if bytes_eq node.name (codes "meta") then meta_of node.within else others)
    (gives-either IsWellSection (bytes_eq node.name (codes "meta")) (meta_of node.within) others
    (gives-if IsWellSection (every_element is_fact node.within) (Some Meta) tt)
    (gives-either IsWellSection (bytes_eq node.name (codes "data")) (data_of node.within) (if bytes_eq node.name (codes "rules") then rules else None)
    (gives-map (AllByRecursion IsWellEntered) IsWellSection Data (option_and_then not_empty (each_element entry_of node.within)) (λ es h. h)
    (gives-then (AllByRecursion IsWellEntered) (AllByRecursion IsWellEntered) not_empty (each_element entry_of node.within)
    (gives-some (AllByRecursion IsWellEntered)) (gives-elements IsWellEntered entry_of gives-entry node.within)))
    (gives-if IsWellSection (bytes_eq node.name (codes "rules")) rules
    (gives-map (AllByRecursion IsWellStated) IsWellSection (λ ss. Rules (rules_of ss)) (each_element statement_of node.within) definitions-well
    (gives-elements IsWellStated statement_of gives-statement node.within)))))

with-both : (entries : List Entry) (rules : statements.Rules) → AllByRecursion IsWellEntered entries → AllByRecursion IsWellDefined rules.definitions
    → IsWellFormedRuleset (ruleset_with entries rules)
with-both entries rules h k = record { entries = h; definitions = All-from_recursion IsWellDefined rules.definitions k }

gives-ruleset : (sections : List Section) → AllByRecursion IsWellSection sections → Gives IsWellFormedRuleset (ruleset_by sections)
gives-ruleset (Data entries ∷ []) h = with-both entries (rules_of []) h.0 tt
gives-ruleset (Data entries ∷ Rules rules ∷ []) h = with-both entries rules h.0 h.1.0
gives-ruleset (Meta ∷ Data entries ∷ []) h = with-both entries (rules_of []) h.1.0 tt
gives-ruleset (Meta ∷ Data entries ∷ Rules rules ∷ []) h = with-both entries rules h.1.0 h.1.1.0
gives-ruleset sections h = tt

pub said-well : (tokens : List Token) (r : Ruleset) → Says tokens r → IsWellFormedRuleset r
said-well tokens r s =
    given IsWellFormedRuleset (option_and_then ruleset_by (each_element section_of s.within)) r
    (gives-then (AllByRecursion IsWellSection) IsWellFormedRuleset ruleset_by (each_element section_of s.within) gives-ruleset
    (gives-elements IsWellSection section_of gives-section s.within))
    s.says

-- so is what is read of them
pub read-well : (tokens : List Token) (result : Result held.Ruleset ReadError) → IsSaidBy tokens result → IfOk result (λ r. IsWellFormedRuleset (file r))
read-well tokens (Ok r) s = said-well tokens (file r) s
read-well tokens (Err e) s = tt
