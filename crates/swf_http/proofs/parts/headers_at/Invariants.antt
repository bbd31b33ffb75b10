use Rattle.std.proofs.Common.{◌≡◌, map, drop, fold}
use Rattle.httparse.specs.Spans.{header_bytes}
use Rattle.swf_calls.specs.Headers.{with_field}
use Rattle.swf_http.specs.Fields.{header_of, headers_of}
use Rattle.swf_http.proofs.parts.headers_at.Given as goal

-- the headers so far, with those that are left
abbrev pub invariant-loop-span : goal.invariant-loop-span
invariant-loop-span l =
    fold (λ headers pair. with_field (header_of pair) headers) l.headers (map (header_bytes l.bytes) (drop l.span-index l.spans)) ≡ headers_of (map (header_bytes l.bytes) l.spans)
