use Rattle.std.proofs.Common.{rules, ◌≡◌, ℕ, ◌+◌, ◌++◌, List, length, take, drop, min, sym, ap, ◌∙◌, append_assoc}
use Rattle.std.specs.Cmp.Lexicographic.{bytes_decides}
use Rattle.xml_text.proofs.GatheredLemmas.{stands_after}
use Rattle.xml_text.proofs.gathered.Gathered.add_more.Goals as goal

pub returns-then-eq : goal.returns-then-eq
returns-then-eq c =
    let begin = c.self.inside.text.now in
    let held = c.self.inside.len in
    let joined = c.self.inside.joined.items in
    let len = c.args.len in
    let part = take len c.args.text.now in
    let least : c.min.result ≡ min held (length begin) = search rules in
    let same : c.front.result.now ≡ c.split_at.result.0.now = (bytes_decides _ _).0 (sym c.eq.ensures ∙ c.if-eq.true) in
    let stands : take len (drop (min held (length begin)) begin) ≡ part =
    ap (λ (n : ℕ). take len (drop n begin)) (sym least) ∙ ap (take len) (sym c.split_at-2.ensures.back) ∙ sym c.front.ensures ∙ same ∙ c.split_at.ensures.front in
    let more : take (length c.split_at-2.result.0.now + len) begin ≡ take held begin ++ part =
    ap (λ (x : List ℕ). take (length x + len) begin) (c.split_at-2.ensures.front ∙ ap (λ (n : ℕ). take n begin) least) ∙ stands_after begin part held len stands in
    ap (λ (x : List ℕ). joined ++ x) more ∙ sym (append_assoc joined (take held begin) part) ∙ ap (λ (x : List ℕ). x ++ part) c.self.view_is
