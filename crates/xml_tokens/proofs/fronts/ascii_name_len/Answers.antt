use Rattle.xml_tokens.proofs.AsciiNames.{letters_first}
use Rattle.xml_tokens.proofs.fronts.ascii_name_len.Goals as goal

pub returns : goal.returns
returns c = letters_first c.args.bytes.now c.letters_len-letters.result c.any_ascii_name_len.result c.letters_len-letters.ensures.len c.any_ascii_name_len.ensures.len
