-- An answer that is said for each thing before it, at one of them.
use Rattle.std.proofs.Common.{◌≡◌, ◌∙◌, ap, Result}
use Rattle.std.specs.Result.{IfOk}
use Rattle.std.proofs.lemmas.Result.{IfOk-weaker}

pub chosen : {O E B X : Type 0} (r : Result O E) (root wanted : X) → root ≡ wanted → (Known : B → Type 0) (f : B → X → O) (before : B) → Known before
    → IfOk r (λ o. (b : B) → Known b → o ≡ f b root) → IfOk r (λ o. o ≡ f before wanted)
chosen {O} {E} {B} {X} r root wanted is Known f before known from =
    IfOk-weaker r (λ (o : O). (b : B) → Known b → o ≡ f b root) (λ (o : O). o ≡ f before wanted) (λ o told. told before known ∙ ap (f before) is) from
