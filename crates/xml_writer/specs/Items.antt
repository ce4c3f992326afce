-- What an end puts into its stream (RFC 6120, section 4.4): items, and the bytes that they are written as.
use Rattle.std.specs.Prelude.{ℕ, List, ◌++◌, codes}
use Rattle.xml_names.specs.declared.headers.Header.{Header}
use Rattle.xml_trees.specs.Trees.{Elem}
use Rattle.xml_writer.specs.Canon.{canon, written_footer, written_header}

-- a header, a whole element at the top level, or a footer
pub data ItemOut : Type 0 where
  Opening : Header → ItemOut
  Whole : Elem → ItemOut
  Closing : ItemOut

-- the declaration that stands before a header (XML 1.0, section 2.8)
abbrev pub declaration : List ℕ
declaration = codes "<?xml version='1.0'?>"

abbrev pub written_item : ItemOut → List ℕ
written_item (Opening h) = declaration ++ written_header h
written_item (Whole e) = canon e
written_item Closing = written_footer
