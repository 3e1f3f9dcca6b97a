use Rattle.std.proofs.Common.{◌≡◌, List, ℕ, [], ◌∷◌, ◌++◌, ◌+◌, ◌<◌, ◌≤◌, length, take, get_or, set, sym, ap, ◌∙◌, subst, arith, length-take}
use Rattle.std.proofs.lemmas.List.{take_more}
use Rattle.std.proofs.lemmas.Str.{encodes-append}
use Rattle.idn_text.specs.Points.{utf8_of}
use Rattle.idn_text.proofs.Utf8Lemmas.{length-utf8_of-le}
use Rattle.idn2_cli.specs.inner.CachedLines.{Begun, BeginsWith, IsBegun}
use Rattle.idn2_cli.proofs.CachedLineLemmas.{BeginsWith-push}
use Rattle.idn2_cli.proofs.modes.cached_line.CachedLine.push.Goals as goal

-- so many octets have the code points so far
few : (label line : List ℕ) (count : ℕ) → length label ≤ 63 → count < length label → line ≡ utf8_of (take count label) → length line ≤ 248
few label line count short more is = omega (arith, ap length is, length-utf8_of-le (take count label), length-take count label, short, more)

pub put_points-end-requires-clause-room : goal.put_points-end-requires-clause-room
put_points-end-requires-clause-room c =
    let count = ap (λ (v : Begun). v.count) c.self.view_is in
    let line = ap (λ (v : Begun). v.line) c.self.view_is ∙ c.requires.line in
    let most = few c.args.label.now (take c.self.inside.len c.self.inside.line) c.args.self.now.count c.requires.short c.requires.more line in
    omega (arith, most, length-take c.self.inside.len c.self.inside.line, c.self.invariant.0)

pub overflow_cast-self : goal.overflow_cast-self
overflow_cast-self c =
    let line = ap (λ (v : Begun). v.line) c.self.view_is ∙ c.requires.line in
    let most = few c.args.label.now (take c.self.inside.len c.self.inside.line) c.args.self.now.count c.requires.short c.requires.more line in
    omega (arith, most, c.put_points-end.ensures.end, length-take c.self.inside.len c.self.inside.line, c.self.invariant.0)

pub invariant_of-self : goal.invariant_of-self
invariant_of-self c =
    let count = ap (λ (v : Begun). v.count) c.self.view_is in
    let line = ap (λ (v : Begun). v.line) c.self.view_is ∙ c.requires.line in
    let most = few c.args.label.now (take c.self.inside.len c.self.inside.line) c.args.self.now.count c.requires.short c.requires.more line in (
      omega (arith, most, c.put_points-end.ensures.end, length-take c.self.inside.len c.self.inside.line, c.self.invariant.0),
      omega (arith, count, c.requires.short, c.requires.more),
    )

pub returns-clause-line : goal.returns-clause-line
returns-clause-line c =
    let label = c.args.label.now in
    let at = c.self.inside.count in
    let count : at ≡ c.args.self.now.count = ap (λ (v : Begun). v.count) c.self.view_is in
    let line : take c.self.inside.len c.self.inside.line ≡ utf8_of (take at label) = ap (λ (v : Begun). v.line) c.self.view_is ∙ c.requires.line ∙ ap (λ n. utf8_of (take n label)) (sym count) in
    c.put_points-end.ensures.written
    ∙ ap (λ l. l ++ utf8_of (get_or label at 0 ∷ [])) line
    ∙ sym (encodes-append (take at label) (get_or label at 0 ∷ []))
    ∙ ap utf8_of (sym (take_more label at 0 (omega (arith, count, c.requires.more))))

pub returns-clause-begun : goal.returns-clause-begun
returns-clause-begun c =
    let label = c.args.label.now in
    let at = c.self.inside.count in
    let end : ℕ = c.put_points-end.result in
    let new : List ℕ = take end c.put_points-end.new.room in
    let ends : List ℕ = c.self.inside.ends in
    let old : List ℕ = take c.self.inside.len c.self.inside.line in
    let count : at ≡ c.args.self.now.count = ap (λ (v : Begun). v.count) c.self.view_is in
    let more : at < length label = omega (arith, count, c.requires.more) in
    let line : old ≡ utf8_of (take at label) = ap (λ (v : Begun). v.line) c.self.view_is ∙ c.requires.line ∙ ap (λ n. utf8_of (take n label)) (sym count) in
    let point = get_or label at 0 in
    let longer : new ≡ utf8_of (take at label ++ point ∷ []) =
    c.put_points-end.ensures.written ∙ ap (λ l. l ++ utf8_of (point ∷ [])) line ∙ sym (encodes-append (take at label) (point ∷ [])) in
    let most = few label old c.args.self.now.count c.requires.short c.requires.more (line ∙ ap (λ n. utf8_of (take n label)) count) in
    let whole : end ≡ length new = omega (arith, length-take end c.put_points-end.new.room, c.put_points-end.ensures.length, c.put_points-end.ensures.end, most, length-take c.self.inside.len c.self.inside.line, c.self.invariant.0) in
    let was : IsBegun label (record { line = old; count = at; ends = ends }) = subst (IsBegun label) (sym c.self.view_is) c.requires.begun in
    let long : length (take at label) ≡ at = omega (arith, more, length-take at label) in
    let room : length (take at label) + 1 < length ends = omega (arith, c.self.told, long, more, c.requires.short) in
    record {
      within = omega (arith, more);
      begins = subst (λ n. BeginsWith new (take (at + 1) label) (set ends n end)) (ap (λ n. n + 1) long)
          (subst (λ l. BeginsWith new l (set ends (length (take at label) + 1) end)) (sym (take_more label at 0 more))
          (BeginsWith-push old (take at label) ends was.begins point end new room longer whole));
    }
