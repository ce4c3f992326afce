use Rattle.law_xml.proofs.PipeLaws.{closes, due_means_none, end_told, open_without_bytes, without_bytes}
use Rattle.law_xml.proofs.carried.an_ended_pipe_carries_the_same.Goals as goal

pub returns : goal.returns
returns c = record { ended = closes; due = due_means_none; told = end_told; empty = without_bytes; no_items = open_without_bytes }
