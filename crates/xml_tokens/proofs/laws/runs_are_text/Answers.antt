use Rattle.xml_tokens.proofs.Utf8Runs as runs
use Rattle.xml_tokens.proofs.laws.runs_are_text.Goals as goal

pub returns : goal.returns
returns c = runs.runs_are_text
