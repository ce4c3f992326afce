use Rattle.law_archives.proofs.AskedPages.{has_asked, has_first, has_last}
use Rattle.law_archives.proofs.pages.pages_have_what_was_asked_for.Goals as goal

pub returns : goal.returns
returns c = record { asked = has_asked; first = has_first; last = has_last }
