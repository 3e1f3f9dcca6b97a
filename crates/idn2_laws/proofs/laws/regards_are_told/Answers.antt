use Rattle.std.proofs.Common.{refl}
use Rattle.idn2_answers.proofs.CollisionTests.{collide-told, regard-one, regard-told}
use Rattle.idn2_laws.proofs.laws.regards_are_told.Goals as goal

pub returns : goal.returns
returns c = record {
  told = λ o table v w sound. regard-told o table sound v w;
  one = λ o table v w regard sound. regard-one o table sound v w regard;
  turned = λ o table v w. refl;
  collide = λ o table v w sound. collide-told o table sound v w;
}
