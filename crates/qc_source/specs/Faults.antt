-- Faults of the steps of reading, as faults of queries.
use Rattle.qc_lex.specs.declared.fault.ScanFault.{ScanFault}
use Rattle.qc_lex.specs.declared.fault.ScanFault.TheVariants as scan
use Rattle.qc_grammar.specs.declared.fault.SyntaxFault.{SyntaxFault}
use Rattle.qc_grammar.specs.declared.fault.SyntaxFault.TheVariants as syntax
use Rattle.qc_typing.specs.declared.fault.TypeFault.{TypeFault}
use Rattle.qc_typing.specs.declared.fault.TypeFault.TheVariants as type
use Rattle.qc_source.specs.declared.fault.QueryFault.{QueryFault}
use Rattle.qc_source.specs.declared.fault.QueryFault.TheVariants.{BadScan, TooManyTokens, BadSyntax, BadType, Memory}

abbrev pub of_scan : ScanFault → QueryFault
of_scan (scan.BadScan at) = BadScan at
of_scan scan.TooManyTokens = TooManyTokens
of_scan scan.Memory = Memory

abbrev pub of_syntax : SyntaxFault → QueryFault
of_syntax (syntax.BadSyntax at) = BadSyntax at
of_syntax syntax.Memory = Memory

abbrev pub of_type : TypeFault → QueryFault
of_type (type.BadType at) = BadType at
of_type type.Memory = Memory
