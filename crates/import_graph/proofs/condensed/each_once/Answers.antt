use Rattle.import_graph.proofs.condensed.each_once.Goals as goal

pub returns : goal.returns
returns c = rw (c.from_vec.ensures, ← c.in_ok-files.ensures.items) c.ascending.ensures.exact
