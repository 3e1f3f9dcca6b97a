-- The block of a label that is asked among registered ones, label by label.
use Rattle.std.proofs.Common.{◌≡◌, ◌↔◌, ◌+◌, ◌-◌, ◌&&◌, ◌==◌, not, ℕ, zero, suc, List, [], ◌∷◌, ◌++◌, Bool, true, false, cond, Option, Some, None, IfSome, Contains, length, map, refl, sym, ap, subst, ◌∙◌, if◌then◌else◌, arith}
use Rattle.std.specs.List.{filter, slice_get}
use Rattle.std.specs.Option.{option_map}
use Rattle.std.specs.Ordering.{is_gt}
use Rattle.std.proofs.lemmas.Bool.{and_parts}
use Rattle.std.proofs.lemmas.List.{append_assoc, map-append, length-append}
use Rattle.std.proofs.lemmas.Option.{get_or_from_slice_get}
use Rattle.variant_table.specs.Entries.{TableValue}
use Rattle.valid_labels.specs.Validity.{IsSound}
use Rattle.variant_list.specs.Closure.{AreNear}
use Rattle.variant_list.specs.Labels.{IsRising, label_cmp}
use Rattle.variant_list.proofs.RisingLists.{IsRising-filter}
use Rattle.registered_labels.specs.Registered.{AreRegistered}
use Rattle.registered_labels.specs.Collisions.{Matching, collisions, collisions_ahead}
use Rattle.idn2_options.specs.Settings.{Settings, IsCount}
use Rattle.answer_json.specs.declared.collision.Regards.{Regards}
use Rattle.idn2_answers.specs.Said.{Said, BlockEnd, NamedEnd}
use Rattle.idn2_answers.specs.Said as said
use Rattle.idn2_answers.specs.Listings.{nth_if_given, block_to, is_registrable}
use Rattle.idn2_answers.specs.Collisions.{IsGood, collide, collision_block, collisions_after, is_either, is_found, is_itself_left_out, named_if, regards_of}
use Rattle.idn2_answers.proofs.CollisionTests.{collide-told, near-of}
use Rattle.idn2_answers.proofs.FoundLabels.{found-walked}
use Rattle.idn2_answers.proofs.LabelStops.{get-above}
use Rattle.idn2_cli.specs.declared.modes.collisions.Collision.{Collision}
use Rattle.idn2_cli.specs.inner.FoundLabels.{collision_line_by, ending, found_block, label_of, lines_from, said_of, stop_at, told_block}
use Rattle.idn2_cli.specs.declared.modes.decided.Decisions.{Decisions}
use Rattle.idn2_cli.specs.inner.Decided.{IsOfPair}
use Rattle.idn2_cli.specs.inner.LineAnswers.{reaches}
use Rattle.idn2_cli.specs.inner.Progress.{block_from}
use Rattle.idn2_cli.proofs.BlockSteps.{get_if_given, limit_from, stops_at_variant, stops_later, reaches-now, reaches-later, limit_from-later, add_none}
use Rattle.idn2_cli.proofs.ListingLemmas.{block_from-none}

-- ---- the lines to come

module _ (line : List ℕ → Said) where
  block_from-from : (vs : List (List ℕ)) → IsRising vs → (count : ℕ) (place : Option ℕ)
      → block_from line count (get_if_given vs place) vs ≡ lines_from line (limit_from count place) count vs
  block_from-from [] rising count None = ap (λ (n : ℕ). BlockEnd n None ∷ []) (add_none count)
  block_from-from [] rising count (Some i) = ap (λ (n : ℕ). BlockEnd n None ∷ []) (add_none count)
  block_from-from (v ∷ vs) rising count None =
      stops_later line count v vs None tt ∙ ap (λ (l : List Said). line v ∷ l) (block_from-from vs rising.1 (count + 1) None)
  block_from-from (v ∷ vs) rising count (Some zero) =
      stops_at_variant line count v vs (Some v) rising.0 refl
      ∙ ap (λ (b : Bool). line v ∷ (if b then BlockEnd (count + 1) (Some v) ∷ [] else lines_from line (limit_from count (Some 0)) (count + 1) vs)) (sym (reaches-now count))
  block_from-from (v ∷ vs) rising count (Some (suc i)) =
      stops_later line count v vs (slice_get vs i) (get-above v vs i rising.0)
      ∙ ap (λ (l : List Said). line v ∷ l) (block_from-from vs rising.1 (count + 1) (Some i))
      ∙ ap (λ (limit : Option ℕ). line v ∷ lines_from line limit (count + 1) vs) (sym (limit_from-later count i))
      ∙ ap (λ (b : Bool). line v ∷ (if b then BlockEnd (count + 1) (Some v) ∷ [] else lines_from line (limit_from count (Some (suc i))) (count + 1) vs)) (sym (reaches-later count i))

  -- the block is these lines
  block-lines : (vs : List (List ℕ)) (limit : Option ℕ) → IsRising vs → IfSome limit IsCount → block_to line (nth_if_given vs limit) vs ≡ lines_from line limit 0 vs
  block-lines vs None rising limits = block_from-none line None vs ∙ block_from-from vs rising 0 None
  block-lines vs (Some zero) rising limits = absurd (omega (arith, limits.0))
  block-lines vs (Some (suc m)) rising limits =
      block_from-none line (slice_get vs (suc m - 1)) vs
      ∙ ap (λ (n : ℕ). block_from line 0 (slice_get vs n) vs) (let one : suc m - 1 ≡ m = omega arith in one)
      ∙ block_from-from vs rising 0 (Some m)
      ∙ ap (λ (n : ℕ). lines_from line (Some n) 0 vs) (let same : (0 + 1) + m ≡ suc m = omega arith in same)

-- ---- the labels that are found among those that a walk comes to

at-end : (xs : List Collision) (x : Collision) → slice_get (xs ++ x ∷ []) (length xs) ≡ Some x
at-end [] x = refl
at-end (y ∷ xs) x = at-end xs x

last_of : (xs : List Collision) (x : Collision) → slice_get (xs ++ x ∷ []) (length (xs ++ x ∷ []) - 1) ≡ Some x
last_of xs x =
    ap (slice_get (xs ++ x ∷ [])) (let one : length (xs ++ x ∷ []) - 1 ≡ length xs = omega (arith, length-append xs (x ∷ [])) in one) ∙ at-end xs x

module _ (o : Settings) (table : TableValue) (label : List ℕ) where
  abbrev test : List ℕ → Bool
  test = is_found o table label

  abbrev line : List ℕ → Said
  line = collision_line_by o table label

  -- the block, by the labels that a variant graph spells, which are those that are near the label
  pub block-walked : (registered spelled : List (List ℕ)) → IsSound table → AreRegistered o.properties registered → IfSome o.limit IsCount → ((w : List ℕ) → Contains spelled w ↔ AreNear table label w)
      → collision_block o table registered label ≡ named_if o.others label (lines_from line o.limit 0 (filter test (collisions spelled registered o.after)))
  block-walked registered spelled sound all limits near =
      let sure : (v : List ℕ) → test v ≡ true → Contains spelled v =
      λ v told. (near v).1 (near-of o table label v ((collide-told o table sound label v).0 (and_parts (not (is_itself_left_out o label v)) (collide (is_registrable o.properties) table label v) told).1)) in
      ap (named_if o.others label) (
      block-lines line (collisions_after o table registered label) o.limit (IsRising-filter (λ v. is_gt (label_cmp v o.after) && test v) registered all.rising) limits
      ∙ ap (lines_from line o.limit 0) (sym (found-walked test spelled o.after sure registered)))

  -- the label itself, if that is left out
  pub test-left_out : (v : List ℕ) → is_itself_left_out o label v ≡ true → test v ≡ false
  test-left_out v left = ap (λ (b : Bool). not b && collide (is_registrable o.properties) table label v) left

  -- any other label, by what it and the label are to each other
  pub test-other : (v : List ℕ) (told : Regards) → is_itself_left_out o label v ≡ false → told ≡ regards_of (is_registrable o.properties) table label v → test v ≡ is_either told
  test-other v told kept is = ap (λ (b : Bool). not b && collide (is_registrable o.properties) table label v) kept ∙ ap is_either (sym is)

  -- what a walk still comes to
  abbrev pub ahead : Matching → List (List ℕ)
  ahead s = filter test (collisions_ahead s)

  next_if : (s next : Matching) (b : Bool) → collisions_ahead s ≡ next.label ∷ collisions_ahead next → test next.label ≡ b → ahead s ≡ cond b (next.label ∷ ahead next) (ahead next)
  next_if s next b found told = ap (filter test) found ∙ ap (λ (c : Bool). cond c (next.label ∷ ahead next) (ahead next)) told

  module _ (limit : Option ℕ) (registered : List (List ℕ)) where
    -- these are found, and those to come follow
    abbrev pub IsUnderWay : Matching → Matching → List Collision → Type 0
    IsUnderWay start s found =
        lines_from line limit 0 (ahead start) ≡ map (said_of registered) found ++ lines_from line limit (length found) (ahead s)

    -- it doesn't collide
    pub under_way-passed : (start s next : Matching) (found : List Collision) → IsUnderWay start s found → collisions_ahead s ≡ next.label ∷ collisions_ahead next → test next.label ≡ false → IsUnderWay start next found
    under_way-passed start s next found h goes told = h ∙ ap (λ (l : List (List ℕ)). map (said_of registered) found ++ lines_from line limit (length found) l) (next_if s next false goes told)

    module _ (start s next : Matching) (found : List Collision) (c : Collision) (h : IsUnderWay start s found) (goes : collisions_ahead s ≡ next.label ∷ collisions_ahead next) (told : test next.label ≡ true) (is : said_of registered c ≡ line next.label) where
      rest : Bool → List Said
      rest b = if b then BlockEnd (length found + 1) (Some next.label) ∷ [] else lines_from line limit (length found + 1) (ahead next)

      one_more : (l : List Said) → map (said_of registered) found ++ (line next.label ∷ l) ≡ map (said_of registered) (found ++ c ∷ []) ++ l
      one_more l =
          sym (append_assoc (map (said_of registered) found) (line next.label ∷ []) l)
          ∙ ap (λ (x : Said). (map (said_of registered) found ++ x ∷ []) ++ l) (sym is)
          ∙ ap (λ (ls : List Said). ls ++ l) (sym (map-append (said_of registered) found (c ∷ [])))

      longer : length found + 1 ≡ length (found ++ c ∷ [])
      longer = sym (length-append found (c ∷ []))

      split : (b : Bool) → reaches limit (length found + 1) ≡ b → lines_from line limit 0 (ahead start) ≡ map (said_of registered) (found ++ c ∷ []) ++ rest b
      unfolding rest
      split b reached =
          h ∙ ap (λ (l : List (List ℕ)). map (said_of registered) found ++ lines_from line limit (length found) l) (next_if s next true goes told)
          ∙ ap (λ (d : Bool). map (said_of registered) found ++ (line next.label ∷ rest d)) reached
          ∙ one_more (rest b)

      -- it does, and may not be the last
      pub under_way-found : reaches limit (length found + 1) ≡ false → IsUnderWay start next (found ++ c ∷ [])
      unfolding rest
      under_way-found going = split false going ∙ ap (λ (n : ℕ). map (said_of registered) (found ++ c ∷ []) ++ lines_from line limit n (ahead next)) longer

      -- it is the last
      pub under_way-reached : label_of registered c ≡ next.label → reaches limit (length found + 1) ≡ true → found_block limit registered (found ++ c ∷ []) ≡ lines_from line limit 0 (ahead start)
      unfolding rest
      under_way-reached at reached =
          let last : slice_get (found ++ c ∷ []) (length (found ++ c ∷ []) - 1) ≡ Some c = last_of found c in
          sym (split true reached
          ∙ ap (λ (n : ℕ). map (said_of registered) (found ++ c ∷ []) ++ BlockEnd n (Some next.label) ∷ []) longer
          ∙ ap (λ (e : Option (List ℕ)). map (said_of registered) (found ++ c ∷ []) ++ BlockEnd (length (found ++ c ∷ [])) e ∷ []) (
          ap (λ (v : List ℕ). let o : Option (List ℕ) = Some v in o) (sym at)
          ∙ ap (option_map (label_of registered)) (sym last)
          ∙ ap (λ (b : Bool). if b then option_map (label_of registered) (slice_get (found ++ c ∷ []) (length (found ++ c ∷ []) - 1)) else None)
          (sym (ap (reaches limit) (sym longer) ∙ reached))))

    -- none is left
    pub under_way-ended : (start s : Matching) (found : List Collision) → IsUnderWay start s found → collisions_ahead s ≡ [] → reaches limit (length found) ≡ false → found_block limit registered found ≡ lines_from line limit 0 (ahead start)
    under_way-ended start s found h none going =
        ap (λ (b : Bool). map (said_of registered) found ++ BlockEnd (length found) (if b then option_map (label_of registered) (slice_get found (length found - 1)) else None) ∷ []) going
        ∙ ap (λ (l : List (List ℕ)). map (said_of registered) found ++ lines_from line limit (length found) l) (sym (ap (filter test) none))
        ∙ sym h

-- what is said of a label that was found
pub said-found : (o : Settings) (table : TableValue) (label : List ℕ) (registered : List (List ℕ)) (c : Collision) (v : List ℕ) → slice_get registered c.number ≡ Some v → (let line = collision_line_by o table label in said.Collision c.regards v ≡ line v)
    → said_of registered c ≡ collision_line_by o table label v
said-found o table label registered c v at told = ap (λ (w : List ℕ). said.Collision c.regards w) (get_or_from_slice_get registered c.number v [] at) ∙ told

-- what is told of a label by what decides
pub told-of : (o : Settings) (table : TableValue) (label v : List ℕ) (d : Decisions) (told : Regards) (ok : Type 0) → IsOfPair table label d
    → (IsGood o d.table.now d.label.now → ok → told ≡ regards_of (is_registrable o.properties) d.table.now d.label.now v) → IsGood o table label → ok → told ≡ regards_of (is_registrable o.properties) table label v
told-of o table label v d told ok pair from =
    let at_table : IsGood o table d.label.now → ok → told ≡ regards_of (is_registrable o.properties) table d.label.now v =
    subst (λ (t : TableValue). IsGood o t d.label.now → ok → told ≡ regards_of (is_registrable o.properties) t d.label.now v) pair.table_is from in
    subst (λ (l : List ℕ). IsGood o table l → ok → told ≡ regards_of (is_registrable o.properties) table l v) pair.label_is at_table

-- ---- a block, and its end

named-parts : (others : Bool) (label : List ℕ) (registered : List (List ℕ)) (found : List Collision) (end : Said)
    → named_if others label (map (said_of registered) found ++ end ∷ []) ≡ map (said_of registered) found ++ named_if others label (end ∷ [])
named-parts true label registered [] end = refl
named-parts true label registered (c ∷ found) end = ap (λ (l : List Said). said_of registered c ∷ l) (named-parts true label registered found end)
named-parts false label registered found end = refl

pub told-parts : (o : Settings) (label : List ℕ) (registered : List (List ℕ)) (found : List Collision) → told_block o label registered found ≡ map (said_of registered) found ++ ending o label registered found
told-parts o label registered found = named-parts o.others label registered found (BlockEnd (length found) (stop_at o.limit registered found))

module _ (o : Settings) (label : List ℕ) (registered : List (List ℕ)) (found : List Collision) (limit : Option ℕ) (same : limit ≡ o.limit) where
  -- without `--others`
  pub ending-plain : o.others ≡ false → ending o label registered found ≡ BlockEnd (length found) (stop_at limit registered found) ∷ []
  ending-plain off =
      ap (λ (b : Bool). named_if b label (BlockEnd (length found) (stop_at o.limit registered found) ∷ [])) off
      ∙ ap (λ (n : Option ℕ). BlockEnd (length found) (stop_at n registered found) ∷ []) (sym same)

  -- with it, where none is found
  pub ending-none : o.others ≡ true → (length found == 0) ≡ true → ending o label registered found ≡ []
  ending-none on none =
      ap (λ (b : Bool). named_if b label (BlockEnd (length found) (stop_at o.limit registered found) ∷ [])) on
      ∙ ap (λ (b : Bool). (if b then [] else NamedEnd label (length found) (stop_at o.limit registered found) ∷ []) ++ []) none

  -- and where some are
  pub ending-named : o.others ≡ true → (length found == 0) ≡ false → ending o label registered found ≡ NamedEnd label (length found) (stop_at limit registered found) ∷ []
  ending-named on some =
      ap (λ (b : Bool). named_if b label (BlockEnd (length found) (stop_at o.limit registered found) ∷ [])) on
      ∙ ap (λ (b : Bool). (if b then [] else NamedEnd label (length found) (stop_at o.limit registered found) ∷ []) ++ []) some
      ∙ ap (λ (n : Option ℕ). NamedEnd label (length found) (stop_at n registered found) ∷ []) (sym same)
