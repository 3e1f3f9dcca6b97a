-- Where a line has its fault, by the keyword with which it begins or without one.
use Rattle.std.proofs.Common.{◌≡◌, inl, inr, ℕ, ◌+◌, ◌≤◌, Bool, true, false, cond, List, [], ◌∷◌, arith, length, Option, Some, None, Result, Ok, Err, refl, sym, ap, subst, ◌∙◌}
use Rattle.std.specs.Prelude.{◌↔◌, IfErr}
use Rattle.std.specs.Option.{option_map}
use Rattle.std.specs.Result.{result_err, result_ok}
use Rattle.ruleset_text.specs.declared.definition_line.DefinitionLine.{DefinitionLine}
use Rattle.ruleset_text.specs.declared.fault.DefinitionFault.{DefinitionFault}
use Rattle.ruleset_text.specs.declared.fault.DefinitionFault.TheVariants as definitions
use Rattle.ruleset_text.specs.declared.fault.FaultPlace.{FaultPlace}
use Rattle.ruleset_text.specs.declared.fault.FaultPlace.TheVariants.{Lexeme}
use Rattle.ruleset_text.specs.declared.keyword.Keyword.{Keyword}
use Rattle.ruleset_text.specs.Definition.{Definition, keyword_of}
use Rattle.ruleset_text.specs.DefinitionPlaces as places
use Rattle.ruleset_text.specs.DefinitionReading.{after_keyword, begun_at, begun_by, definition_read, line_read}
use Rattle.ruleset_text.specs.Definitions.{Definitions}
use Rattle.ruleset_text.specs.EntrySteps.{entry_read}
use Rattle.ruleset_text.specs.Lexemes.{is_blank, is_joined, lexemes}
use Rattle.ruleset_text.specs.PlacedLexemes.{Placed, onto_placed, placed_from, placed_lexemes, unplaced}
use Rattle.ruleset_text.proofs.DefinitionStopLemmas as definition_stops
use Rattle.ruleset_text.proofs.EntryStopLemmas as entry_stops
use Rattle.ruleset_text.proofs.PlacedLemmas.{unplaced-from}
use Rattle.variant_table.specs.declared.fault.LineRefusal.{LineRefusal}
use Rattle.variant_table.specs.declared.fault.TableFault.TheVariants as tables
use Rattle.variant_table.specs.declared.version.Version.{Version}
use Rattle.variant_table.specs.declared.version.Version.TheVariants.{One, Two, Three}
use Rattle.variant_table.specs.DefinitionLines.{keyword_in, with_after}
use Rattle.variant_table.specs.Forms.{parts_of}
use Rattle.variant_table.specs.Limits.{line_limit}
use Rattle.variant_table.specs.LinePlaces.{IsSyntaxPlace, body_place, definition_line, definition_place, place_by}
use Rattle.variant_table.specs.inner.ReadingSteps.{told_in}

-- ---- the keyword

abbrev pub without_places : DefinitionLine → Keyword × List (List ℕ)
without_places line = (line.keyword, unplaced line.after)

-- the keyword of a line, and the lexemes after it, with their places or without them
pub keyword_placed : (v : Version) (line : List ℕ) (o : Option DefinitionLine) → o ≡ definition_line v line → keyword_in v (lexemes line) ≡ option_map without_places o
keyword_placed v line o e = ap (keyword_in v) (sym (unplaced-from 0 line)) ∙ by_version v ∙ ap (option_map without_places) (sym e)
  where
    by_keyword : (w : Placed) (ws : List Placed) (k : Option Keyword) → with_after (unplaced ws) k ≡ option_map without_places (result_ok (begun_at (length line) w ws k))
    by_keyword w ws None = refl
    by_keyword w ws (Some k) = refl

    by_lexemes : (ws : List Placed) → keyword_in Three (unplaced ws) ≡ option_map without_places (result_ok (begun_by (length line) ws))
    by_lexemes [] = refl
    by_lexemes (w ∷ ws) = by_keyword w ws (keyword_of w.lexeme)

    by_version : (v : Version) → keyword_in v (unplaced (placed_lexemes line)) ≡ option_map without_places (definition_line v line)
    by_version One = refl
    by_version Two = refl
    by_version Three = by_lexemes (placed_lexemes line)

-- what a line with a keyword defines is what its lexemes do
read_after : (names : List (List ℕ)) (end : ℕ) (ws : List Placed) (defining : DefinitionLine) → result_ok (begun_by end ws) ≡ Some defining
    → line_read names end ws ≡ definition_read names defining.keyword defining.end defining.after
read_after names end [] defining e = absurd (let clash : (let o : Option DefinitionLine = None in o) ≡ Some defining = e in cc)
read_after names end (w ∷ ws) defining e = by (keyword_of w.lexeme) e
  where
    by : (k : Option Keyword) → result_ok (begun_at end w ws k) ≡ Some defining → after_keyword names end w ws k ≡ definition_read names defining.keyword defining.end defining.after
    by None h = absurd (let clash : (let o : Option DefinitionLine = None in o) ≡ Some defining = h in cc)
    by (Some k) h =
        let this : DefinitionLine = record { keyword = k; place = Lexeme w.place (length w.lexeme); after = ws; end = end } in
        let whole : Some this ≡ Some defining = h in
        let same : this ≡ defining = cc in
        ap (λ (l : DefinitionLine). definition_read names l.keyword l.end l.after) same

line_read_after : (names : List (List ℕ)) (v : Version) (line : List ℕ) (defining : DefinitionLine) → definition_line v line ≡ Some defining
    → line_read names (length line) (placed_lexemes line) ≡ definition_read names defining.keyword defining.end defining.after
line_read_after names One line defining e = absurd (let clash : (let o : Option DefinitionLine = None in o) ≡ Some defining = e in cc)
line_read_after names Two line defining e = absurd (let clash : (let o : Option DefinitionLine = None in o) ≡ Some defining = e in cc)
line_read_after names Three line defining e = read_after names (length line) (placed_lexemes line) defining e

-- ---- the place of a call that reads

pub placed_by : (d : Definitions) (v : Version) (line : List ℕ) (o : Option DefinitionLine) → o ≡ definition_line v line → {X : Type 0} (result : Result X LineRefusal)
    → IfErr result (λ r. r.place ≡ place_by d r.fault v line o) → IfErr result (λ r. r.place ≡ body_place d r.fault v line)
placed_by d v line o e result h = subst (λ k. IfErr result (λ r. r.place ≡ place_by d r.fault v line k)) e h

pub definition_told : (d : Definitions) (number : ℕ) (fault : DefinitionFault) (line : DefinitionLine) → places.definition_place d fault line ≡ definition_place d (told_in number fault) line
definition_told d number definitions.Memory line = by (definition_read d.set_names line.keyword line.end line.after)
  where
    by : (read : Result Definition FaultPlace) → places.place_by d definitions.Memory line.place line.after read ≡ None
    by (Ok x) = refl
    by (Err stop) = refl
definition_told d number definitions.Syntax line = refl
definition_told d number definitions.Limit line = refl
definition_told d number definitions.NoSuchName line = refl
definition_told d number definitions.BadClass line = refl
definition_told d number definitions.SameName line = refl

-- ---- the place of syntax

err_of : {X : Type 0} (place : FaultPlace) (read : Result X FaultPlace) → result_err read ≡ Some place → read ≡ Err place
err_of place (Ok x) e = absurd cc
err_of place (Err other) e = let same : other ≡ place = cc in ap (λ p. Err p) same

stop_told : (d : Definitions) (line : DefinitionLine) (read : Result Definition FaultPlace) → places.place_by d definitions.Syntax line.place line.after read ≡ result_err read
stop_told d line (Ok x) = refl
stop_told d line (Err stop) = refl

-- a line has no more lexemes than bytes
onto_most : (n c : ℕ) (ws : List Placed) → length (onto_placed n c ws) ≤ length ws + 1
onto_most n c [] = omega arith
onto_most n c (w ∷ ws) = omega arith

placed_most : (n : ℕ) (line : List ℕ) → length (placed_from n line) ≤ length line
placed_most n [] = omega arith
placed_most n (c ∷ cs) = by (is_blank c) (is_joined c cs) (placed_most (n + 1) cs)
  where
    by : (b j : Bool) → length (placed_from (n + 1) cs) ≤ length cs
        → length (cond b (placed_from (n + 1) cs) (cond j (onto_placed n c (placed_from (n + 1) cs)) (record { place = n; lexeme = c ∷ [] } ∷ placed_from (n + 1) cs))) ≤ length (c ∷ cs)
    by true j h = omega (arith, h)
    by false true h = omega (arith, h, onto_most n c (placed_from (n + 1) cs))
    by false false h = omega (arith, h)

limit_most : (v : Version) → line_limit v ≤ 8192
limit_most One = omega arith
limit_most Two = omega arith
limit_most Three = omega arith

pub syntax_told : (d : Definitions) (number : ℕ) (version : Version) (line : List ℕ) (place : FaultPlace) → length line ≤ line_limit version
    → (body_place d (tables.Syntax number) version line ≡ Some place) ↔ IsSyntaxPlace d.set_names version line place
syntax_told d number version line place short = by (definition_line version line) refl
  where
    by : (o : Option DefinitionLine) → definition_line version line ≡ o → (place_by d (tables.Syntax number) version line o ≡ Some place) ↔ IsSyntaxPlace d.set_names version line place
    by None e =
        let stop = entry_stops.the_stop (parts_of version) line place in (
          λ h. inr (e, stop.0 (err_of place (entry_read (parts_of version) line) h)),
          λ is. elim is [ inl defined ↦ absurd (let clash : None ≡ Some defined.0 = sym e ∙ defined.1 in cc) | inr other ↦ ap result_err (stop.1 other.1) ],
        )
    by (Some defining) e =
        let read = definition_read d.set_names defining.keyword defining.end defining.after in
        let same = line_read_after d.set_names version line defining e in
        let told = stop_told d defining read in
        let stop = definition_stops.the_stop d.set_names (length line) (placed_lexemes line) place (omega (arith, short, limit_most version, placed_most 0 line)) in (
          λ h. inl (defining, e, stop.0 (same ∙ err_of place read (sym told ∙ h))),
          λ is. elim is [ inl defined ↦ told ∙ ap result_err (sym same ∙ stop.1 defined.2) | inr other ↦ absurd (let clash : Some defining ≡ None = sym e ∙ other.0 in cc) ],
        )
