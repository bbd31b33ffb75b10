mod HostedLemmas
