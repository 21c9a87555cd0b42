use Rattle.lsp_queries.proofs.Names.{named-stands_apart}
use Rattle.lsp_queries.proofs.OneSymbol.{one-name_holds, symbols-stand}
use Rattle.lsp_queries.proofs.place_laws.one_symbol.Goals as goal

pub returns-clause-one : goal.returns-clause-one
returns-clause-one c = one-name_holds c.uses_in_order.ensures (named-stands_apart c.names_apart.ensures c.other_names_law.ensures.apart)

pub returns-clause-exact : goal.returns-clause-exact
returns-clause-exact c = symbols-stand c.uses_in_order.ensures (named-stands_apart c.names_apart.ensures c.other_names_law.ensures.apart)
