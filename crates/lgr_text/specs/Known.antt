-- What is known where a class or a rule is read: the entries, and what stands for the names that come before it.
use Rattle.std.specs.Prelude.{ℕ, List, [], ◌∷◌, map, if◌then◌else◌}
use Rattle.std.specs.List.{AllByRecursion, flat_map}
use Rattle.label_patterns.specs.declared.span.Span.{Span}
use Rattle.label_patterns.specs.Patterns.{Pattern}
use Rattle.label_patterns.specs.Trees.{pattern}
use Rattle.ruleset_text.specs.Names.{is_one_of}
use Rattle.lgr_text.specs.CodePoints.{AreSpans}
use Rattle.lgr_text.specs.Records.{Entry, Source, Sequence, Range, entry}
use Rattle.lgr_text.specs.declared.known.Known as held

-- the entries; classes as sets, and rules as patterns, with their names, by number; the code points that labels have
pub record Known : Type 0 where
  pub entries : List Entry
  pub set_names : List (List ℕ)
  pub sets : List (List Span)
  pub rule_names : List (List ℕ)
  pub rules : List Pattern
  pub points : List Span

abbrev pub known : held.Known → Known
known k = record {
  entries = map entry k.entries.now;
  set_names = k.set_names.now;
  sets = k.sets.now;
  rule_names = k.rule_names.now;
  rules = map pattern k.rules.now;
  points = k.points.now;
}

-- the code points of an entry, if each is an entry by itself: no sequence is in a class (RFC 7940, section 6.2.2)
abbrev pub single_points : Source → List Span
single_points (Sequence []) = []
single_points (Sequence (c ∷ [])) = record { first = c; last = c } ∷ []
single_points (Sequence (c ∷ d ∷ points)) = []
single_points (Range span) = span ∷ []

-- these are spans of code points, for each entry
abbrev pub HaveSpans : List Entry → Type 0
HaveSpans entries = AllByRecursion (λ e. AreSpans (single_points e.source)) entries

-- the code points of the entries that have a tag
abbrev pub tagged : List Entry → List ℕ → List Span
tagged entries tag = flat_map (λ e. if is_one_of e.tags tag then single_points e.source else []) entries
