use Rattle.std.proofs.Common.{◌≡◌, ◌==◌, ◌&&◌, Bool, false, [], ◌∷◌, get_or, ap, arith}
use Rattle.xml_text.specs.inner.DocumentSteps.{state, step}
use Rattle.xml_text.specs.inner.Runs.{Takes}
use Rattle.xml_text.proofs.BodyLemmas.{read_return, read_skipped, read_other, not_byte, no_skip}
use Rattle.xml_text.proofs.document_state.DocumentState.read.Goals as goal
use Rattle.xml_text.proofs.document_state.DocumentState.read.Goals.{in-13+in_ok-taken-in-13, in-10, in_default+in_ok-taken-in_default, in_default-via-in-10+else-self, in_default-via-in_default-1}

pub returns-clause-taken : goal.returns-clause-taken
returns-clause-taken c = elim c.match-byte.branch [
  | in-13+in_ok-taken-in-13 w ↦
      let is : get_or c.args.rest.now 0 0 ≡ 13 = omega arith in
      let takes : Takes step (step (state c.args.self.now) 10) (10 ∷ []) c.match-byte.taken (state c.match-byte.self) = rw (w.taken-is, w.self-is) w.in_ok-taken-in-13.ensures.taken in
      read_return c.args.self.now _ c.args.rest.now c.match-byte.taken c.requires.some is takes (ap (λ b. b == 13) is)
  | in-10 w ↦
      let is : get_or c.args.rest.now 0 0 ≡ 10 = omega arith in
      rw w.taken-is (read_skipped c.args.self.now _ c.args.rest.now c.requires.some is w.if-self.true (rw w.self-is) (ap (λ b. b == 13) is))
  | in_default+in_ok-taken-in_default w ↦
      let takes : Takes step (step (state c.args.self.now) (get_or c.args.rest.now 0 0)) c.args.rest.now c.match-byte.taken (state c.match-byte.self) = rw (w.taken-is, w.self-is) w.in_ok-taken-in_default.ensures.taken in
      let other : (get_or c.args.rest.now 0 0 == 13) ≡ false = not_byte (get_or c.args.rest.now 0 0) 13 (λ e. omega arith) in
      let keeps : (c.args.self.now.is_after_return && get_or c.args.rest.now 0 0 == 10) ≡ false = elim w.in_default.branch [
        | in_default-via-in-10+else-self w' ↦ ap (λ (o : Bool). o && get_or c.args.rest.now 0 0 == 10) w'.if-self.false
        | in_default-via-in_default-1 w' ↦ no_skip c.args.self.now.is_after_return (get_or c.args.rest.now 0 0 == 10) (not_byte (get_or c.args.rest.now 0 0) 10 (λ e. omega arith))
      ] in
      read_other c.args.self.now _ c.args.rest.now c.match-byte.taken other keeps takes other
]
