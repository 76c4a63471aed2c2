use Rattle.std.proofs.Common.{◌≡◌, map, take}
use Rattle.std.specs.List.{AllByRecursion as Each}
use Rattle.round_pars.specs.declared.pars.RoundPar.{RoundPar}
use Rattle.round_pars.specs.Pars.{HasProps}
use Rattle.round_pars.proofs.pars.round_pars.Given as goal

abbrev pub invariant-loop-text : goal.invariant-loop-text
invariant-loop-text l = (map (λ (par : RoundPar). par.text.now) l.pars.items ≡ take l.text-index l.texts) × Each (HasProps l.styles) l.pars.items
