-- What a draft of a variant graph has laid out.
use Rattle.std.proofs.Common.{◌≡◌, ℕ, zero, suc, ◌+◌, ◌-◌, ◌<◌, ◌≤◌, List, [], ◌∷◌, ◌++◌, length, drop, refl, sym, ap, ◌∙◌, subst, inl, inr, ◌↔◌, arith, length-append, append-nil, append_assoc}
use Rattle.std.specs.Prelude.{slice_index}
use Rattle.std.proofs.Math.Seq.{get_or-append_seam}
use Rattle.std.proofs.lemmas.Bool.{cases_order}
use Rattle.std.proofs.lemmas.List.{get_or_append_left}
use Rattle.std.proofs.lemmas.List.Sums.{sum_by_push, sum_by-cons}
use Rattle.std.proofs.lemmas.List.Elements.{Contains-append_left, Contains-append_right, Contains-append_cases}
use Rattle.variant_list.specs.declared.edges.Edge.{Edge}
use Rattle.variant_list.specs.inner.Plans.{Plan, Reads, first_place}
use Rattle.variant_list.specs.inner.Layouts.{ReadsBy, HasPlace, HasChain, Draft, IsSound, SubstitutionSpells, IsOpen, IsLaid, HasTaken, HasEnded}
use Rattle.reading_kinds.specs.Readings.{Substitution, SubstitutionsSpell}
use Rattle.variant_list.specs.Substitutions.{points_in}
use Rattle.variant_list.specs.inner.NetPlans.{IsNetOf}
use Rattle.variant_list.proofs.SubstitutionLemmas.{nothing_spelled, SubstitutionsSpell-here}
use Rattle.variant_list.proofs.PlanLemmas.{Reads-kept, Reads-was, more_places, IsPlan-only_end, only_end, Reads-only_end}
use Rattle.variant_list.proofs.ChainLemmas.{ReadsBy-kept, ReadsBy-was}
use Rattle.variant_table.proofs.MemberLemmas.{Contains-head, Contains-none, Contains-one}

Reads-nothing : (v : List ℕ) → Reads only_end 0 v ↔ SubstitutionsSpell [] v
Reads-nothing [] = (λ r. ([], tt, refl), λ s. refl)
Reads-nothing (c ∷ v) = (λ r. absurd (Reads-only_end c v r), λ s. (let clash : [] ≡ c ∷ v = nothing_spelled s.0 (c ∷ v) s.1 s.2 in cc))

-- the end alone
pub IsLaid-nothing : IsLaid [] (record { plan = only_end; places = 0 ∷ []; begun = [] })
IsLaid-nothing = record {
  open_place = record {
    sound = record { plan = IsPlan-only_end; inside = inside; lead = λ e m. absurd (Contains-none e m) };
    count = refl;
    endings = endings_read;
    fits = λ u m. absurd (Contains-none u m);
    reads = λ v. (λ s. absurd (Contains-none s.0 s.1), λ s. absurd (Contains-none s.0 s.1));
    edges = refl;
    starts = refl;
    room = refl;
  };
  last = refl;
}
  where
    inside : (n : ℕ) → n < 1 → slice_index (0 ∷ []) n < 1
    inside zero l = omega arith
    inside (suc n) l = absurd (omega (arith, l))

    endings_read : (n : ℕ) → n ≤ 0 → (v : List ℕ) → Reads only_end (slice_index (0 ∷ []) n) v ↔ SubstitutionsSpell (drop (0 - n) []) v
    endings_read zero l v = Reads-nothing v
    endings_read (suc n) l v = absurd (omega (arith, l))

-- one substitution more
pub HasTaken-chain : (old : Draft) (covers kinds : ℕ) (points : List ℕ) (plan : Plan) (edge : Edge) → IsSound old → 1 ≤ covers → covers ≤ length old.places
    → HasChain old.plan points (slice_index old.places (length old.places - covers)) plan edge
    → HasTaken old (record { covers = covers; kinds = kinds; points = points } ∷ []) (record { plan = plan; places = old.places; begun = old.begun ++ edge ∷ [] })
HasTaken-chain old covers kinds points plan edge sound some within chain =
    let was = sound.plan.laid_out in
    let up = more_places old.plan plan was chain.keeps in
    let n : ℕ = length old.places - covers in
    let to : ℕ = slice_index old.places n in
    let u : Substitution = record { covers = covers; kinds = kinds; points = points } in
    let now : Draft = record { plan = plan; places = old.places; begun = old.begun ++ edge ∷ [] } in
    let sound_now : IsSound now = record {
      plan = chain.plan;
      inside = λ i l. omega (arith, sound.inside i l, up);
      lead = λ e m. elim (Contains-append_cases old.begun (edge ∷ []) e m) [
        | inl there ↦ omega (arith, sound.lead e there, up)
        | inr here ↦ subst (λ x. x.place < length plan.rests) (Contains-one edge e here) chain.inside
      ];
    } in
    record {
      sound = sound_now;
      places = refl;
      substitutions = λ later here o. (
          let target : n ≤ length later = omega (arith, o.count, some, within) in
          let from : length later - n ≡ covers - 1 = omega (arith, o.count, some, within) in
          let after : (w : List ℕ) → Reads old.plan to w ↔ SubstitutionsSpell (drop (covers - 1) later) w = λ w. subst (λ k. Reads old.plan to w ↔ SubstitutionsSpell (drop k later) w) from (o.endings n target w) in
          record {
            sound = sound_now;
            count = o.count;
            endings = λ i l v. (
              λ r. (o.endings i l v).0 (Reads-was old.plan plan was chain.keeps (slice_index old.places i) v (sound.inside i (omega (arith, l, o.count))) r),
              λ s. Reads-kept old.plan plan was chain.keeps (slice_index old.places i) v (sound.inside i (omega (arith, l, o.count))) ((o.endings i l v).1 s),
            );
            fits = λ x m. elim (Contains-append_cases here (u ∷ []) x m) [
              | inl there ↦ o.fits x there
              | inr last ↦ subst (λ (y : Substitution). (1 ≤ y.covers) × (y.covers ≤ length later + 1)) (Contains-one u x last) (some, omega (arith, within, o.count))
            ];
            reads = λ v. (
              λ s. elim (Contains-append_cases old.begun (edge ∷ []) s.0 s.1) [
                | inl there ↦ (let g = (o.reads v).0 (s.0, there, ReadsBy-was old.plan plan was chain.keeps s.0 v (sound.lead s.0 there) s.2) in (g.0, Contains-append_left here (u ∷ []) g.0 g.1, g.2))
                | inr last ↦ (let b = (chain.reads v).0 (subst (λ x. ReadsBy plan x v) (sym (Contains-one edge s.0 last)) s.2) in
                    (u, Contains-append_right here (u ∷ []) u (Contains-head u []), (b.0, b.1, (after b.0).0 b.2)))
              ],
              λ g. elim (Contains-append_cases here (u ∷ []) g.0 g.1) [
                | inl there ↦ (let s = (o.reads v).1 (g.0, there, g.2) in (s.0, Contains-append_left old.begun (edge ∷ []) s.0 s.1, ReadsBy-kept old.plan plan was chain.keeps s.0 v (sound.lead s.0 s.1) s.2))
                | inr last ↦ (let b : SubstitutionSpells later u v = subst (λ x. SubstitutionSpells later x v) (sym (Contains-one u g.0 last)) g.2 in
                    (edge, Contains-append_right old.begun (edge ∷ []) edge (Contains-head edge []), (chain.reads v).1 (b.0, b.1, (after b.0).1 b.2)))
              ],
            );
            edges = omega (arith, chain.count, o.edges, length-append old.begun (edge ∷ []), sum_by_push (λ (x : Substitution). length x.points) here u);
            starts = omega (arith, o.starts, length-append old.begun (edge ∷ []), length-append here (u ∷ []));
            room = omega (arith, chain.places, o.room);
          }
          );
    }

-- the place is done
pub HasEnded-place : (old : Draft) (plan : Plan) (place : ℕ) → IsSound old → HasPlace old.plan old.begun plan place → HasEnded old (record { plan = plan; places = old.places ++ place ∷ []; begun = [] })
HasEnded-place old plan place sound made =
    let was = sound.plan.laid_out in
    let up = more_places old.plan plan was made.keeps in
    let now : Draft = record { plan = plan; places = old.places ++ place ∷ []; begun = [] } in
    let seam : slice_index (old.places ++ place ∷ []) (length old.places) ≡ place = get_or-append_seam old.places place [] 0 in
    let sound_now : IsSound now = record {
      plan = made.plan;
      inside = λ i l. elim (cases_order i (length old.places)) [
        | inl e ↦ (let read : slice_index (old.places ++ place ∷ []) i ≡ place = ap (slice_index (old.places ++ place ∷ [])) e ∙ seam in omega (arith, read, made.last))
        | inr o ↦ elim o [
          | inl less ↦ (let read : slice_index (old.places ++ place ∷ []) i ≡ slice_index old.places i = get_or_append_left old.places (place ∷ []) 0 i less in omega (arith, read, sound.inside i less, up))
          | inr more ↦ absurd (omega (arith, l, length-append old.places (place ∷ []), more))
        ]
      ];
      lead = λ e m. absurd (Contains-none e m);
    } in
    record {
      sound = sound_now;
      substitutions = λ later here o. (record {
        open_place = record {
          sound = sound_now;
          count = omega (arith, o.count, length-append old.places (place ∷ []));
          endings = λ i l v. elim (cases_order i (length old.places)) [
            | inl e ↦
                (let read : slice_index (old.places ++ place ∷ []) i ≡ place = ap (slice_index (old.places ++ place ∷ [])) e ∙ seam in
                let none : length (here ∷ later) - i ≡ 0 = omega (arith, e, o.count) in
                subst (λ k. Reads plan (slice_index (old.places ++ place ∷ []) i) v ↔ SubstitutionsSpell (drop k (here ∷ later)) v) (sym none)
                (subst (λ p. Reads plan p v ↔ SubstitutionsSpell (here ∷ later) v) (sym read) (
                  λ r. (SubstitutionsSpell-here here later o.fits v).0 ((o.reads v).0 ((made.reads v).0 r)),
                  λ s. (made.reads v).1 ((o.reads v).1 ((SubstitutionsSpell-here here later o.fits v).1 s)),
                )))
            | inr d ↦ elim d [
              | inl less ↦
                  (let read : slice_index (old.places ++ place ∷ []) i ≡ slice_index old.places i = get_or_append_left old.places (place ∷ []) 0 i less in
                  let within : i ≤ length later = omega (arith, less, o.count) in
                  let from : length (here ∷ later) - i ≡ suc (length later - i) = omega (arith, within) in
                  subst (λ k. Reads plan (slice_index (old.places ++ place ∷ []) i) v ↔ SubstitutionsSpell (drop k (here ∷ later)) v) (sym from)
                  (subst (λ p. Reads plan p v ↔ SubstitutionsSpell (drop (length later - i) later) v) (sym read) (
                    λ r. (o.endings i within v).0 (Reads-was old.plan plan was made.keeps (slice_index old.places i) v (sound.inside i less) r),
                    λ s. Reads-kept old.plan plan was made.keeps (slice_index old.places i) v (sound.inside i less) ((o.endings i within v).1 s),
                  )))
              | inr more ↦ absurd (omega (arith, l, o.count, more))
            ]
          ];
          fits = λ u m. absurd (Contains-none u m);
          reads = λ v. (λ s. absurd (Contains-none s.0 s.1), λ s. absurd (Contains-none s.0 s.1));
          edges = omega (arith, made.count, o.edges, sum_by-cons points_in here later);
          starts = refl;
          room = omega (arith, made.places, made.count, o.room, o.starts, sum_by-cons {X = List Substitution} length here later);
        };
        last = (let top : length (here ∷ later) ≡ length old.places = omega (arith, o.count) in omega (arith, made.last, ap (slice_index (old.places ++ place ∷ [])) top, seam));
      });
    }

-- the same of a draft that is known by its parts
pub HasEnded-parts : (inner old new : Draft) (place : ℕ) → inner ≡ old → IsSound old → HasPlace inner.plan inner.begun new.plan place → new.places ≡ inner.places ++ place ∷ [] → new.begun ≡ [] → HasEnded old new
HasEnded-parts inner old new place same sound made places begun =
    subst (λ d. HasEnded d new) same
    (subst (λ q. HasEnded inner (draft_of new.plan q new.begun)) (sym places) (subst (λ es. HasEnded inner (draft_of new.plan (inner.places ++ place ∷ []) es)) (sym begun)
    (HasEnded-place inner new.plan place (subst IsSound (sym same) sound) made)))
  where
    draft_of : Plan → List ℕ → List Edge → Draft
    draft_of p q es = record { plan = p; places = q; begun = es }

-- no substitution, and further substitutions
pub HasTaken-none : (old : Draft) → IsSound old → HasTaken old [] old
HasTaken-none old sound = record { sound = sound; places = refl; substitutions = λ later here o. subst (λ us. IsOpen later us old) (sym (append-nil here)) o }

pub HasTaken-more : (old mid new : Draft) (us vs : List Substitution) → HasTaken old us mid → HasTaken mid vs new → HasTaken old (us ++ vs) new
HasTaken-more old mid new us vs first second = record {
  sound = second.sound;
  places = second.places ∙ first.places;
  substitutions = λ later here o. subst (λ xs. IsOpen later xs new) (append_assoc here us vs) (second.substitutions later (here ++ us) (first.substitutions later here o));
}

-- the first place spells what the substitutions spell
pub IsLaid-reads : (substitutions : List (List Substitution)) (draft : Draft) → IsLaid substitutions draft → (v : List ℕ) → Reads draft.plan (first_place draft.plan) v ↔ SubstitutionsSpell substitutions v
IsLaid-reads substitutions draft laid v =
    let first : slice_index draft.places (length substitutions) ≡ first_place draft.plan = omega (arith, laid.last) in
    let all : length substitutions - length substitutions ≡ 0 = omega arith in
    let whole : drop (length substitutions - length substitutions) substitutions ≡ substitutions = ap (λ n. drop n substitutions) all ∙ whole_list substitutions in
    subst (λ us. Reads draft.plan (first_place draft.plan) v ↔ SubstitutionsSpell us v) whole
    (subst (λ p. Reads draft.plan p v ↔ SubstitutionsSpell (drop (length substitutions - length substitutions) substitutions) v) first (laid.open_place.endings (length substitutions) (omega arith) v))
  where
    whole_list : (us : List (List Substitution)) → drop 0 us ≡ us
    whole_list [] = refl
    whole_list (u ∷ us) = refl

-- the variant graph of substitutions
pub IsNetOf-laid : (substitutions : List (List Substitution)) (draft : Draft) → IsLaid substitutions draft → IsNetOf substitutions draft.plan
IsNetOf-laid substitutions draft laid = record {
  reads = λ v. IsLaid-reads substitutions draft laid v;
  edges = omega (arith, laid.open_place.edges, laid.open_place.starts);
  places = omega (arith, laid.open_place.room);
}
