-- The tree of saved bytes is loaded.
use Rattle.std.proofs.Common.{◌≡◌, ℕ, List, refl, sym}
use Rattle.std.specs.Str.{IsUtf8, chars}
use Rattle.doc_model.specs.declared.document.Document.{Document}
use Rattle.doc_model.specs.Valid.{IsValid}
use Rattle.load_model.specs.Loaded.{loaded}
use Rattle.load_model.specs.Names.{resolved}
use Rattle.tree_text.specs.Writing.{document_text}
use Rattle.written_model.specs.Written.{written}
use Rattle.read_back.specs.Back.{HasRanges}
use Rattle.read_back.proofs.Whole.{loaded_back}
use Rattle.save_loads.specs.Again.{IsLoadedAgain}

pub loaded_again : (bytes : List ℕ) (doc : Document) → IsValid doc → HasRanges doc → IsUtf8 bytes → chars bytes ≡ document_text (written doc) → IsLoadedAgain bytes doc
loaded_again bytes doc valid ranges utf8 text =
    let back = loaded_back bytes doc valid ranges utf8 text in
    record {
      again = loaded (resolved back.tree.root);
      loads = record { tree = back.tree; spelled = back.spelled; sound = back.sound; doc_is = refl; report_is = sym back.report };
      alike = back.alike;
    }
