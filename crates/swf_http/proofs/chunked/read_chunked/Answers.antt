use Rattle.std.proofs.lemmas.Result.{err_from_is_err_and}
use Rattle.swf_http.proofs.chunked.read_chunked.Goals as goal

pub returns-in_err-read_chunks-clause-says : goal.returns-in_err-read_chunks-clause-says
returns-in_err-read_chunks-clause-says g c =
    let p = err_from_is_err_and c.from_residual.result c.from_residual.ensures.1 in
    λ x s. rw (p.1, p.2) (c.in_err-read_chunks.ensures.says x s)
