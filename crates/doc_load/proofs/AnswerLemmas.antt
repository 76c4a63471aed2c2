-- What an answer says of the bytes of a file.
use Rattle.std.proofs.Common.{◌≡◌, ℕ, ◌⊎◌, inl, inr, List, refl, sym, ap, ◌∙◌, subst, Option, Some, None, Result, Err}
use Rattle.std.specs.Result.{IfOk, IfErr}
use Rattle.doc_model.specs.declared.document.Document.{Document}
use Rattle.doc_model.specs.declared.report.Report.{Report}
use Rattle.load_model.specs.declared.offence.TreeOffence.{TreeOffence}
use Rattle.load_model.specs.Loaded.{loaded, report_of}
use Rattle.load_model.specs.Names.{resolved}
use Rattle.load_model.specs.Offences.{first_offence}
use Rattle.markup_nodes.specs.declared.tree.Tree.{Tree}
use Rattle.markup_tree.specs.declared.reader.Offence.{Offence as MarkupOffence}
use Rattle.markup_tree.specs.declared.reader.ReadFault.{ReadFault}
use Rattle.markup_tree.specs.declared.reader.ReadFault.TheVariants as read
use Rattle.markup_tree.specs.Documents.{Spells, HasOffence as MarkupHas, IsFaultIn as IsMarkupFault, IsOffenceUnlessMemory as IsMarkupOffence}
use Rattle.markup_tree.proofs.TreeLemmas.{one_tree, tree_apart}
use Rattle.doc_load.specs.Loads.{HasOffence, IsFaultIn, IsLoadedUnlessMemory, IsOffenceUnlessMemory, Loads}
use Rattle.doc_load.specs.Offences.{fault_of, of_markup, of_tree}
use Rattle.doc_load.specs.Outcomes.{outcome_of}
use Rattle.doc_load.specs.Parts.{answer_of}
use Rattle.doc_load.specs.declared.offence.LoadFault.{LoadFault}
use Rattle.doc_load.specs.declared.offence.LoadFault.TheVariants as fault
use Rattle.doc_load.specs.declared.offence.Offence.{Offence}

-- an answer, or want of memory
abbrev pub Answer : Type 0
Answer = Result (Document × Report) LoadFault

abbrev pub IsUnlessMemory : Answer → Answer → Type 0
IsUnlessMemory wanted result = (result ≡ wanted) ⊎ (result ≡ Err fault.NoMemory)

-- the answer to a tree
abbrev pub wanted : Tree → Option TreeOffence → Answer
wanted tree first = answer_of (outcome_of (resolved tree.root) first)

by_answer : (P : Answer → Type 0) (tree : Tree) (result : Answer) → IsUnlessMemory (wanted tree (first_offence tree.root)) result
    → ((first : Option TreeOffence) → first_offence tree.root ≡ first → P (wanted tree first)) → P (Err fault.NoMemory) → P result
by_answer P tree result (inl e) here none = subst P (sym e) (here (first_offence tree.root) refl)
by_answer P tree result (inr e) here none = subst P (sym e) none

none_or_some : {X : Type 0} (x : X) (o : Option X) → o ≡ None → o ≡ Some x → ⊥
none_or_some x None e f = absurd cc
none_or_some x (Some y) e f = absurd cc

same_some : {X : Type 0} (x y : X) (o : Option X) → o ≡ Some x → o ≡ Some y → x ≡ y
same_some x y o e f = cc

-- where bytes spell a tree
module _ (bytes : List ℕ) (tree : Tree) (spelled : Spells bytes tree) (result : Answer) (answer : IsUnlessMemory (wanted tree (first_offence tree.root)) result) where
  pub tree_loaded : IfOk result (λ one. Loads bytes one.0 one.1)
  tree_loaded = by_answer (λ (r : Answer). IfOk r (λ one. Loads bytes one.0 one.1)) tree result answer here tt where
    here : (first : Option TreeOffence) → first_offence tree.root ≡ first → IfOk (wanted tree first) (λ one. Loads bytes one.0 one.1)
    here None e = record { tree = tree; spelled = spelled; sound = e; doc_is = refl; report_is = refl }
    here (Some offence) e = tt

  pub tree_refused : IfErr result (IsFaultIn bytes)
  tree_refused = by_answer (λ (r : Answer). IfErr r (IsFaultIn bytes)) tree result answer here tt where
    here : (first : Option TreeOffence) → first_offence tree.root ≡ first → IfErr (wanted tree first) (IsFaultIn bytes)
    here None e = tt
    here (Some offence) e = inr (record { tree = tree; spelled = spelled; first = offence; has = e; is = refl })

  pub tree_only : (doc : Document) (report : Report) → Loads bytes doc report → IsLoadedUnlessMemory doc report result
  tree_only doc report loads = by_answer (IsLoadedUnlessMemory doc report) tree result answer here refl where
    same : loads.tree ≡ tree
    same = one_tree bytes loads.tree tree loads.spelled spelled

    sound : first_offence tree.root ≡ None
    sound = ap (λ (t : Tree). first_offence t.root) (sym same) ∙ loads.sound

    here : (first : Option TreeOffence) → first_offence tree.root ≡ first → IsLoadedUnlessMemory doc report (wanted tree first)
    here None e = (ap (λ (t : Tree). loaded (resolved t.root)) (sym same) ∙ sym loads.doc_is, ap (λ (t : Tree). report_of (resolved t.root)) (sym same) ∙ sym loads.report_is)
    here (Some offence) e = absurd (none_or_some offence (first_offence tree.root) sound e)

  pub tree_told : (offence : Offence) → HasOffence bytes offence → IsOffenceUnlessMemory offence result
  tree_told offence (inl markup) = absurd (tree_apart bytes tree markup.markup spelled markup.has)
  tree_told offence (inr is) = by_answer (IsOffenceUnlessMemory offence) tree result answer here tt where
    same : is.tree ≡ tree
    same = one_tree bytes is.tree tree is.spelled spelled

    has : first_offence tree.root ≡ Some is.first
    has = ap (λ (t : Tree). first_offence t.root) (sym same) ∙ is.has

    here : (first : Option TreeOffence) → first_offence tree.root ≡ first → IsOffenceUnlessMemory offence (wanted tree first)
    here None e = absurd (none_or_some is.first (first_offence tree.root) e has)
    here (Some first) e = ap of_tree (same_some first is.first (first_offence tree.root) e has) ∙ sym is.is

no_memory : (told : MarkupOffence) → read.Offence told ≡ read.NoMemory → ⊥
no_memory told e = absurd cc

-- where they spell none
module _ (bytes : List ℕ) where
  pub markup_refused : (why : ReadFault) → IsMarkupFault bytes why → IsFaultIn bytes (fault_of why)
  markup_refused (read.Offence offence) has = inl (record { markup = offence; has = has; is = refl })
  markup_refused read.NoMemory has = tt

  pub markup_only : (why : ReadFault) → ((tree : Tree) → Spells bytes tree → why ≡ read.NoMemory) → (doc : Document) (report : Report) → Loads bytes doc report → IsLoadedUnlessMemory doc report (Err (fault_of why))
  markup_only why none doc report loads = ap fault_of (none loads.tree loads.spelled)

  pub markup_told : (why : ReadFault) → ((tree : Tree) → Spells bytes tree → why ≡ read.NoMemory) → ((offence : MarkupOffence) → MarkupHas bytes offence → IsMarkupOffence offence (Err why))
      → (offence : Offence) → HasOffence bytes offence → IsOffenceUnlessMemory offence (Err (fault_of why))
  markup_told (read.Offence told) none one offence (inl is) = ap of_markup (one is.markup is.has) ∙ sym is.is
  markup_told (read.Offence told) none one offence (inr is) = absurd (no_memory told (none is.tree is.spelled))
  markup_told read.NoMemory none one offence is = tt
