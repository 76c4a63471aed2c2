-- Whether a master page holds something.
use Rattle.std.proofs.Common.{◌≡◌, ℕ, Bool, List, map, length, codes, ap, sym, ◌∙◌}
use Rattle.std.specs.Prelude.{◌||◌, ◌==◌, not}
use Rattle.doc_model.specs.declared.page_layout.HeadPar.{HeadPar}
use Rattle.doc_model.specs.declared.page_layout.Master.{Master}
use Rattle.spelling_model.specs.Spelling.{is_there}
use Rattle.written_model.specs.Elements.{part}
use Rattle.written_model.specs.Styles.{head_paragraph}
use Rattle.sheet_write.proofs.ThereLemmas.{there-append, there-map, there-length, there-part}
use Rattle.head_write.specs.Masters.{master_nodes}

there-head : (name : List ℕ) (pars : List HeadPar) → is_there (part name (map head_paragraph pars)) ≡ not (length pars == 0)
there-head name pars = there-part name (map head_paragraph pars) ∙ (there-map head_paragraph pars ∙ sym (there-length pars))

pub there-heads : (master : Master) → is_there (master_nodes master) ≡ (not (length master.header == 0) || not (length master.footer == 0))
there-heads master =
    let header = part (codes "style:header") (map head_paragraph master.header) in
    let footer = part (codes "style:footer") (map head_paragraph master.footer) in
    there-append header footer
    ∙ (ap (λ (t : Bool). t || is_there footer) (there-head (codes "style:header") master.header) ∙ ap (λ (t : Bool). not (length master.header == 0) || t) (there-head (codes "style:footer") master.footer))
