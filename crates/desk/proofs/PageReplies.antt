-- The reply to the question for a page, where all idle work is done.
use Rattle.std.proofs.Common.{◌≡◌, ◌≤◌, ◌-◌, ℕ, true, List, [], length, drop, refl, subst, arith, Some, None, zero, suc}
use Rattle.std.specs.Prelude.{slice_get, ◌==◌}
use Rattle.std.proofs.lemmas.Bool.{eq-eqb}
use Rattle.doc_model.specs.declared.page.Page.{Page}
use Rattle.desk_model.specs.declared.reply.Reply.{Reply}
use Rattle.desk_model.specs.declared.reply.Reply.TheVariants as reply
use Rattle.round_model.specs.Rounds.{pages_in, last_round}
use Rattle.desk_model.specs.Desk.{State, present, page_reply}

-- the reply tells the page of an index, or how many pages there are
pub record TellsPage (index : ℕ) (given : Reply) (pages : List Page) : Type 0 where
  pub zero : index ≡ 0 → given ≡ reply.NoPage (length pages)
  pub page : (page : Page) → 1 ≤ index → slice_get pages (index - 1) ≡ Some page → given ≡ reply.Page page (length pages)
  pub none : slice_get pages (index - 1) ≡ None → given ≡ reply.NoPage (length pages)

drop-nil : {X : Type 0} (n : ℕ) → drop {A = X} n [] ≡ []
drop-nil zero = refl
drop-nil (suc n) = refl

of_index : (state : State) (index : ℕ) (given : Reply) → (state.idle.debt == 0) ≡ true → TellsPage index given (pages_in (present state) (last_round (present state))) → given ≡ page_reply state index
of_index state zero given settled tells = rw settled (tells.zero refl)
of_index state (suc zero) given settled tells = rw settled (tells.page _ (omega arith) refl)
of_index state (suc (suc more)) given settled tells =
    let place : suc (suc more) - 1 ≡ suc more = omega arith in
    rw (settled, place, drop-nil more) (tells.none (rw place refl))

pub page_reply-settled : (state : State) (index : ℕ) (given : Reply) (pages : List Page) → state.idle.debt ≡ 0 → pages ≡ pages_in (present state) (last_round (present state)) → TellsPage index given pages
    → given ≡ page_reply state index
page_reply-settled state index given pages settled e tells = of_index state index given (eq-eqb state.idle.debt 0 settled) (subst (TellsPage index given) e tells)
