-- Demands, one after the other.
use Rattle.std.proofs.Common.{◌≡◌, ℕ, zero, suc, ◌+◌, ◌<◌, ◌≤◌, ◌⊎◌, inl, inr, min, List, [], ◌∷◌, ◌++◌, length, map, take, get_or, sym, ap, subst, ◌∙◌, arith}
use Rattle.std.specs.Prelude.{Option, Some, None, MatchOption}
use Rattle.std.specs.List.{AllByRecursion, Contains}
use Rattle.std.proofs.lemmas.Bool.{cases_order}
use Rattle.std.proofs.lemmas.List.{map_more}
use Rattle.std.proofs.lemmas.List.Elements.{Contains-append_left, Contains-append_right, Contains-append_cases}
use Rattle.label_patterns.specs.FirstEnds.{IsFirstEnd}
use Rattle.label_patterns.specs.Matches.{Seen, Matches}
use Rattle.label_patterns.specs.Patterns.{Pattern}
use Rattle.label_patterns.specs.Rules.{Occurs}
use Rattle.ruleset_text.specs.declared.definitions.Demand as declared
use Rattle.ruleset_text.specs.DemandTrees.{demand}
use Rattle.ruleset_text.specs.Definitions.{Demand}
use Rattle.variant_table.proofs.MemberLemmas.{Contains-head, Contains-none, Contains-one}
use Rattle.valid_labels.specs.Demands.{IsMet}
use Rattle.valid_labels.specs.inner.Ends.{IsRefusing, IsRefusedAt, NoneRefuses, lesser_of}
use Rattle.variant_table.proofs.MemberLists.{all-push}

-- what is known of all demands is known of each
pub demand-at : (P : Demand → Type 0) (ds : List declared.Demand) (i : ℕ) (d : declared.Demand) → i < length ds → d ≡ get_or ds i d → AllByRecursion P (map demand ds) → P (demand d)
demand-at P ds i d l is all = subst (λ e. P (demand e)) (sym is) (at ds i l all)
  where
    at : (es : List declared.Demand) (k : ℕ) → k < length es → AllByRecursion P (map demand es) → P (demand (get_or es k d))
    at [] k l all = absurd (omega (arith, l))
    at (e ∷ es) zero l all = all.0
    at (e ∷ es) (suc k) l all = at es k (omega (arith, l)) all.1

pub demands-more : (ds : List declared.Demand) (i : ℕ) (d : declared.Demand) → i < length ds → d ≡ get_or ds i d → map demand (take (i + 1) ds) ≡ map demand (take i ds) ++ demand d ∷ []
demands-more ds i d l is = map_more demand ds i d l ∙ ap (λ e. map demand (take i ds) ++ demand e ∷ []) (sym is)

pub met-more : (s : Seen) (ds : List declared.Demand) (i : ℕ) (d : declared.Demand) → i < length ds → d ≡ get_or ds i d → AllByRecursion (IsMet s) (map demand (take i ds)) → IsMet s (demand d)
    → AllByRecursion (IsMet s) (map demand (take (i + 1) ds))
met-more s ds i d l is all kept = subst (AllByRecursion (IsMet s)) (sym (demands-more ds i d l is)) (all-push (IsMet s) (map demand (take i ds)) (demand d) all kept)

-- ---- first ends

-- what matches occurs
matched-occurs : (s : Seen) (p : Pattern) (i j : ℕ) → i ≤ length s.label → Matches s p i j → Occurs s p
matched-occurs s p i j l m = (i, j, l, m)

abbrev pub IsLeast : Seen → List Demand → Option ℕ → Type 0
IsLeast s ds found = MatchOption found (NoneRefuses s ds) (IsRefusedAt s ds)

pub none-least : (s : Seen) → IsLeast s [] None
none-least s d h = absurd (Contains-none d h)

module _ (s : Seen) (ds : List Demand) (d : Demand) where
  -- of the demands and one more
  case : (P : Demand → Type 0) (e : Demand) → Contains (ds ++ d ∷ []) e → (Contains ds e → P e) → P d → P e
  case P e h old new = elim (Contains-append_cases ds (d ∷ []) e h) [ inl a ↦ old a | inr b ↦ subst P (Contains-one d e b) new ]

  -- one that refuses nothing for good
  pub least-same : (found : Option ℕ) → (IsRefusing d → ⊥) → IsLeast s ds found → IsLeast s (ds ++ d ∷ []) found
  least-same None other is = λ e h. case (λ x. IsRefusing x → Occurs s x.pattern → ⊥) e h (λ a. is e a) (λ r. absurd (other r))
  least-same (Some n) other is = record {
    some = (is.some.0, Contains-append_left ds (d ∷ []) is.some.0 is.some.1, is.some.2, is.some.3);
    least = λ e i j h. case (λ x. IsRefusing x → i ≤ length s.label → Matches s x.pattern i j → n ≤ j) e h (λ a. is.least e i j a) (λ r. absurd (other r));
  }

  -- one that does
  pub least-more : (found ends : Option ℕ) → IsRefusing d → MatchOption ends (Occurs s d.pattern → ⊥) (IsFirstEnd s d.pattern) → IsLeast s ds found → IsLeast s (ds ++ d ∷ []) (lesser_of found ends)
  least-more None None refusing none is = λ e h. case (λ x. IsRefusing x → Occurs s x.pattern → ⊥) e h (λ a. is e a) (λ r. none)
  least-more None (Some b) refusing first is = record {
    some = (d, Contains-append_right ds (d ∷ []) d (Contains-head d []), refusing, first);
    least = λ e i j h. case (λ x. IsRefusing x → i ≤ length s.label → Matches s x.pattern i j → b ≤ j) e h (λ a r l m. absurd (is e a r (matched-occurs s e.pattern i j l m))) (λ r. first.least i j);
  }
  least-more (Some a) None refusing none is = record {
    some = (is.some.0, Contains-append_left ds (d ∷ []) is.some.0 is.some.1, is.some.2, is.some.3);
    least = λ e i j h. case (λ x. IsRefusing x → i ≤ length s.label → Matches s x.pattern i j → a ≤ j) e h (λ k. is.least e i j k) (λ r l m. absurd (none (matched-occurs s d.pattern i j l m)));
  }
  least-more (Some a) (Some b) refusing first is = record {
    some = by_order (cases_le a b);
    least = λ e i j h. case (λ x. IsRefusing x → i ≤ length s.label → Matches s x.pattern i j → min a b ≤ j) e h
        (λ k r l m. (let z = is.least e i j k r l m in omega (arith, z))) (λ r l m. (let z = first.least i j l m in omega (arith, z)));
  }
    where
      cases_le : (x y : ℕ) → (min x y ≡ x) ⊎ (min x y ≡ y)
      cases_le x y = elim (cases_order x y) [ inl e ↦ inl (omega (arith, e)) | inr o ↦ elim o [ inl l ↦ inl (omega (arith, l)) | inr m ↦ inr (omega (arith, m)) ] ]

      by_order : (min a b ≡ a) ⊎ (min a b ≡ b) → (x : Demand) × Contains (ds ++ d ∷ []) x × IsRefusing x × IsFirstEnd s x.pattern (min a b)
      by_order (inl e) = (is.some.0, Contains-append_left ds (d ∷ []) is.some.0 is.some.1, is.some.2, subst (IsFirstEnd s is.some.0.pattern) (sym e) is.some.3)
      by_order (inr e) = (d, Contains-append_right ds (d ∷ []) d (Contains-head d []), refusing, subst (IsFirstEnd s d.pattern) (sym e) first)
