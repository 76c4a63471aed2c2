mod CloseLemmas
mod EndLemmas
mod FinishLemmas
mod PageLemmas
mod PlanLemmas
mod RowLemmas
mod TableLemmas
