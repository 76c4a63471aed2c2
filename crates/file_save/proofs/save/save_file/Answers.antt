-- What is saved is the canonical bytes of the one document that the file is loaded as.
use Rattle.std.proofs.Common.{sym, ap, ◌∙◌}
use Rattle.file_save.specs.Saves.{canonical_bytes}
use Rattle.file_save.proofs.Bytes.{canonical}
use Rattle.file_save.proofs.save.save_file.Goals as goal

pub returns-in-Err-clause-only : goal.returns-in-Err-clause-only
returns-in-Err-clause-only c = λ text report saves. c.in-Err.ensures.only saves.doc report saves.loads

pub returns-in-Ok-save-clause-saved : goal.returns-in-Ok-save-clause-saved
returns-in-Ok-save-clause-saved c = record {
  doc = c.in-Ok.loaded.0;
  loads = c.in-Ok.ensures.loaded;
  text_is = canonical c.in-Ok.loaded.0 c.in-Ok-save.text c.in-Ok-save.ensures.utf8 c.in-Ok-save.ensures.text;
}

pub returns-in-Ok-save-clause-only : goal.returns-in-Ok-save-clause-only
returns-in-Ok-save-clause-only c = λ text report saves.
    let same = c.in-Ok.ensures.only saves.doc report saves.loads in (
      canonical c.in-Ok.loaded.0 c.in-Ok-save.text c.in-Ok-save.ensures.utf8 c.in-Ok-save.ensures.text ∙ ap canonical_bytes same.0 ∙ sym saves.text_is,
      same.1,
    )
