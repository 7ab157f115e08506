use Rattle.std.proofs.Common.{◌∙◌, Err, ap}
use Rattle.dv_load.proofs.Loads.{unread_counted, unread_told}
use Rattle.dv_load.proofs.load.load_file_telling.Goals as goal

pub returns-in_err-bytes-clause-loads : goal.returns-in_err-bytes-clause-loads
returns-in_err-bytes-clause-loads g c =
    unread_told _ c.from_residual.result (g.R.ByteIn.remaining c.args.reader.now) c.args.namespace.now c.args.store.now c.in_err-bytes.field-0.0 c.from_residual.ensures.1
    (λ e. c.read_file.ensures.large (c.in_err-bytes.was ∙ ap Err e))

pub returns-in_err-bytes-clause-reader : goal.returns-in_err-bytes-clause-reader
returns-in_err-bytes-clause-reader g c =
    unread_counted _ _ c.from_residual.result c.read_file.result c.in_err-bytes.field-0.0 (g.R.ByteIn.failures c.args.reader.now) (g.R.ByteIn.failures c.read_file.new.reader) c.from_residual.ensures.1
    c.in_err-bytes.was c.read_file.ensures.reader
