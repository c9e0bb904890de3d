use Rattle.std.proofs.Common.{sym, subst}
use Rattle.qc_io.specs.Device.{Rose}
use Rattle.qcert.specs.Delivery.{IsPut}
use Rattle.qcert.proofs.Lines.{scan_line}
use Rattle.qcert.proofs.telling.tell.Goals as goal

pub returns-in-Usage : goal.returns-in-Usage
returns-in-Usage g c = rw (c.in-Usage.is) c.put_all.ensures.bytes

pub returns-in-ReadFault : goal.returns-in-ReadFault
returns-in-ReadFault g c = rw (c.in-ReadFault.is, sym c.word.ensures) c.put_all-in-ReadFault.ensures.bytes

pub returns-in-TooLong : goal.returns-in-TooLong
returns-in-TooLong g c = rw (c.in-TooLong.is, sym c.word-in-TooLong.ensures) c.put_all-in-TooLong.ensures.bytes

pub returns-in-BadSchema : goal.returns-in-BadSchema
returns-in-BadSchema g c = rw (c.in-BadSchema.is) c.put_all-in-BadSchema.ensures.bytes

pub returns-in-TooManyTokens : goal.returns-in-TooManyTokens
returns-in-TooManyTokens g c = rw (c.in-TooManyTokens.is) c.put_all-in-TooManyTokens.ensures.bytes

pub returns-in-BadInput : goal.returns-in-BadInput
returns-in-BadInput g c = rw (c.in-BadInput.is) c.put_all-in-BadInput.ensures.bytes

pub returns-in-Range : goal.returns-in-Range
returns-in-Range g c = rw (c.in-Range.is) c.put_all-in-Range.ensures.bytes

pub returns-in-BadJs : goal.returns-in-BadJs
returns-in-BadJs g c = rw (c.in-BadJs.is) c.put_all-in-BadJs.ensures.bytes

pub returns-in-Stuck : goal.returns-in-Stuck
returns-in-Stuck g c = rw (c.in-Stuck.is) c.put_all-in-Stuck.ensures.bytes

pub returns-in-WriteFault : goal.returns-in-WriteFault
returns-in-WriteFault g c = rw (c.in-WriteFault.is) c.put_all-in-WriteFault.ensures.bytes

pub returns-in-Memory : goal.returns-in-Memory
returns-in-Memory g c = rw (c.in-Memory.is) c.put_all-in-Memory.ensures.bytes

pub returns-in-BadSyntax : goal.returns-in-BadSyntax
returns-in-BadSyntax g c = rw (c.in-BadSyntax.is, sym c.format.ensures.text) c.put_all-in-BadSyntax.ensures.bytes

pub returns-in-BadType : goal.returns-in-BadType
returns-in-BadType g c = rw (c.in-BadType.is, sym c.format-in-BadType.ensures.text) c.put_all-in-BadType.ensures.bytes

pub returns-in-BadScan : goal.returns-in-BadScan
returns-in-BadScan g c =
    rw (c.in-BadScan.is, sym c.format-number.ensures.text, sym c.word-in-BadScan.ensures)
    (subst (λ bytes. IsPut (g.E.Sink.written c.args.err.now) (g.E.Sink.written c.put_all-in-BadScan.new.err)
    (Rose (g.E.Sink.faults c.args.err.now) (g.E.Sink.faults c.put_all-in-BadScan.new.err)) bytes)
    (scan_line c.format-number.result.now c.word-in-BadScan.result.now) c.put_all-in-BadScan.ensures.bytes)
