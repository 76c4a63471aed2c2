-- Names within their limit.
use Rattle.std.proofs.Common.{ℕ, ◌≤◌, List, [], ◌∷◌, map, max, fold, length, arith}
use Rattle.std.specs.List.{AllByRecursion as Each}
use Rattle.doc_model.specs.declared.document.Document.{Document}
use Rattle.doc_model.specs.Limits.{IsWithinLimits}
use Rattle.doc_model.specs.Parts.{names}
use Rattle.back_fields.specs.Fit.{IsNameOrNone}

most : (a : ℕ) (texts : List (List ℕ)) → fold max a (map length texts) ≤ 1024 → (a ≤ 1024) × Each IsNameOrNone texts
most a [] h = (h, tt)
most a (text ∷ texts) h = let rest = most (max a (length text)) texts h in (omega (arith, rest.0), (omega (arith, rest.0), rest.1))

pub names_short : (doc : Document) → IsWithinLimits doc → Each IsNameOrNone (names doc)
names_short doc within = (most 0 (names doc) within.1.1.1.1.1.1.1.1.1.1.0).1
