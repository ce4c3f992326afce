use Rattle.xml_tokens.proofs.Utf8Runs as runs
use Rattle.xml_tokens.proofs.laws.text_runs.Goals as goal

pub returns : goal.returns
returns c = runs.text_runs
