-- Commands one after another, one more at a time.
use Rattle.std.proofs.Common.{◌≡◌, ◌<◌, ◌+◌, ℕ, List, [], ◌∷◌, ◌++◌, length, take, get_or, refl, ap, sym, ◌∙◌, arith, zero, suc}
use Rattle.std.specs.Prelude.{Result, Ok, Err, OnErr}
use Rattle.std.specs.List.{AllByRecursion as Each}
use Rattle.std.proofs.lemmas.List.{take_more}
use Rattle.desk_model.specs.declared.command.Command.{Command}
use Rattle.desk_model.specs.declared.reply.Reply.{Reply}
use Rattle.desk_model.specs.Desk.{State, step, steps}

steps-append : (state : State) (commands : List Command) (command : Command)
    → steps state (commands ++ command ∷ []) ≡ ((steps state commands).0 ++ (step (steps state commands).1 command).0 ∷ [], (step (steps state commands).1 command).1)
steps-append state [] command = refl
steps-append state (first ∷ commands) command =
    let behind : List Reply × State → List Reply × State = λ run. ((step state first).0 ∷ run.0, run.1) in
    ap behind (steps-append (step state first).1 commands command)

-- the run of one more command
pub steps-more : (state reached new : State) (commands : List Command) (i : ℕ) (command : Command) (replies : List Reply) (reply : Reply) → i < length commands → command ≡ get_or commands i command
    → steps state (take i commands) ≡ (replies, reached) → (reply, new) ≡ step reached command → steps state (take (i + 1) commands) ≡ (replies ++ reply ∷ [], new)
steps-more state reached new commands i command replies reply within at so_far now =
    let behind : List Reply × State → List Reply × State = λ run. (run.0 ++ (step run.1 command).0 ∷ [], (step run.1 command).1) in
    let last : Reply × State → List Reply × State = λ given. (replies ++ given.0 ∷ [], given.1) in
    ap (steps state) (take_more commands i command within ∙ ap (λ (here : Command). take i commands ++ here ∷ []) (sym at))
    ∙ steps-append state (take i commands) command
    ∙ ap behind so_far
    ∙ ap last (sym now)

-- what holds of each holds at a place
pub Each-get_or : (P : Command → Type 0) (commands : List Command) (i : ℕ) (command : Command) → i < length commands → Each P commands → P (get_or commands i command)
Each-get_or P [] i command within each = absurd (omega arith)
Each-get_or P (first ∷ commands) zero command within each = each.0
Each-get_or P (first ∷ commands) (suc i) command within each = Each-get_or P commands i command (omega arith) each.1

-- a fact that holds holds of an error
pub on_err : {T E P : Type 0} (given : Result T E) → P → OnErr given P
on_err (Ok value) p = tt
on_err (Err fault) p = p
